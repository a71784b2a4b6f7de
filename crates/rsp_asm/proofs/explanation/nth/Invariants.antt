use Rattle.std.proofs.Common.{◌≡◌, length}
use Rattle.rsp_syntax.specs.Statement.{operand_texts}
use Rattle.rsp_asm.specs.Explanations.{text_at}
use Rattle.rsp_asm.proofs.explanation.nth.Given as goal

abbrev pub invariant-loop-operand : goal.invariant-loop-operand
invariant-loop-operand l = text_at l.operands l.left ≡ text_at (operand_texts l.fn.text) l.fn.index

abbrev pub decreases-loop-operand : goal.decreases-loop-operand
decreases-loop-operand l = length l.operands
