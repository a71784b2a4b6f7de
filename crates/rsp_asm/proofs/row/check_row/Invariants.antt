use Rattle.std.proofs.Common.{◌≡◌, drop, false}
use Rattle.rsp_syntax.specs.Statement.{read_all, operand_texts}
use Rattle.rsp_asm.specs.Statements.{count_or_fault}
use Rattle.rsp_asm.proofs.row.check_row.Given as goal

abbrev pub invariant-loop-kind : goal.invariant-loop-kind
invariant-loop-kind l =
    count_or_fault l.address l.bad 1 (read_all (drop l.kind-index l.kinds) l.operands)
    ≡ count_or_fault l.address false 1 (read_all l.kinds (operand_texts l.text))
