use Rattle.std.proofs.Common.{◌≡◌, drop}
use Rattle.std.specs.Prelude.{flat_map}
use Rattle.rsp_decode.specs.Table.{entry, bit_fields}
use Rattle.rsp_syntax.specs.Statement.{read_all, operand_texts}
use Rattle.rsp_asm.specs.Statements.{word_with, row_word}
use Rattle.rsp_asm.proofs.Steps.{so_far}
use Rattle.rsp_asm.proofs.row.row_word.Given as goal

abbrev pub invariant-loop-kind : goal.invariant-loop-kind
invariant-loop-kind l =
    let left = drop l.kind-index l.row.operands.now in
    word_with l.labels l.address (so_far l.fault l.word) (flat_map bit_fields left) (read_all left l.operands)
    ≡ row_word l.labels l.address (entry l.row) (operand_texts l.text)
