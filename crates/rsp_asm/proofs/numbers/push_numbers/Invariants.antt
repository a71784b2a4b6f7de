use Rattle.std.proofs.Common.{length}
use Rattle.rsp_syntax.specs.Statement.{operand_texts}
use Rattle.rsp_asm.proofs.Steps.{Part}
use Rattle.rsp_asm.proofs.numbers.push_numbers.Given as goal

abbrev pub invariant-loop-operand : goal.invariant-loop-operand
invariant-loop-operand l = Part l.labels l.initial.words.items l.words.items l.fault l.operands (operand_texts l.text)

abbrev pub decreases-loop-operand : goal.decreases-loop-operand
decreases-loop-operand l = length l.operands
