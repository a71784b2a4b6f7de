use Rattle.std.proofs.Common.{◌≡◌, ap, ◌∙◌, sym, arith, List, ℕ, drop, get_or}
use Rattle.std.specs.Prelude.{flat_map, Result}
use Rattle.std.specs.Option.{option_or}
use Rattle.std.specs.Result.{result_err, result_unwrap_or}
use Rattle.rsp_syntax.specs.declared.fault.AsmFaultKind.{AsmFaultKind}
use Rattle.rsp_decode.specs.declared.rows.Operand.TheVariants.{Scalar}
use Rattle.rsp_decode.specs.Table.{bit_fields}
use Rattle.rsp_syntax.specs.Statement as statement
use Rattle.rsp_syntax.specs.Statement.{read_all, fields_of}
use Rattle.rsp_syntax.specs.OperandResults.{with_values}
use Rattle.rsp_asm.specs.Statements.{word_with, and_then}
use Rattle.rsp_asm.proofs.Steps.{so_far, too_few, first_unread, first_put, word_kept}
use Rattle.rsp_operands.proofs.Rows.{operand_fits}
use Rattle.rsp_asm.proofs.row.row_word.Goals as goal

pub returns-in_default : goal.returns-in_default
returns-in_default c =
    let kinds = c.args.row.operands.now in
    let i = c.loop-kind.kind-index in
    let labels = c.args.labels.now in
    let w = so_far c.loop-kind.fault c.loop-kind.word in
    ap (word_with labels c.args.address w (flat_map bit_fields (drop i kinds))) (sym (too_few kinds i (omega arith) (Scalar 0)))
    ∙ ap (λ (ts : List (List ℕ)). word_with labels c.args.address w (flat_map bit_fields (drop i kinds)) (read_all (drop i kinds) ts)) (sym c.in_default.ensures)
    ∙ c.loop-kind.invariant

pub returns-in_default-put_operand : goal.returns-in_default-put_operand
returns-in_default-put_operand c =
    let kinds = c.args.row.operands.now in
    let i = c.loop-kind.kind-index in
    let labels = c.args.labels.now in
    let w = so_far c.loop-kind.fault c.loop-kind.word in
    let put : statement.OperandValue → Result ℕ AsmFaultKind = λ (r : statement.OperandValue). with_values c.loop-kind.word (bit_fields (get_or kinds i (Scalar 0))) (fields_of labels c.args.address r) in
    ap (word_with labels c.args.address w (flat_map bit_fields (drop i kinds))) (first_unread kinds i (omega arith) put _ c.in-Some.operand.now c.next.new.self c.in_default-put_operand.ensures)
    ∙ ap (λ (ts : List (List ℕ)). word_with labels c.args.address w (flat_map bit_fields (drop i kinds)) (read_all (drop i kinds) ts)) (sym c.in-Some.ensures)
    ∙ c.loop-kind.invariant

pub put_operand-requires-clause-room : goal.put_operand-requires-clause-room
put_operand-requires-clause-room c = operand_fits c.args.row.operands.now c.loop-kind.kind-index (Scalar 0) (omega arith) c.requires.fit

pub loop-kind-preserved : goal.loop-kind-preserved
loop-kind-preserved c =
    let kinds = c.args.row.operands.now in
    let i = c.loop-kind.kind-index in
    let labels = c.args.labels.now in
    let fault = c.loop-kind.fault in
    let word = c.loop-kind.word in
    let put = c.in-Some-put_operand.put in
    let next : so_far (option_or fault (result_err put)) (result_unwrap_or put word) ≡ and_then (so_far fault word) (λ x. put) = word_kept fault word put in
    first_put kinds i (omega arith) _ c.in-Some.operand.now c.next.new.self labels c.args.address word fault put _ c.in-Some-put_operand.ensures (cc)
    ∙ ap (λ (ts : List (List ℕ)). word_with labels c.args.address (so_far fault word) (flat_map bit_fields (drop i kinds)) (read_all (drop i kinds) ts)) (sym c.in-Some.ensures)
    ∙ c.loop-kind.invariant
