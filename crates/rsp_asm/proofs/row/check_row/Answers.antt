use Rattle.std.proofs.Common.{ap, ◌∙◌, sym, arith, ◌+◌, List, ℕ, drop}
use Rattle.rsp_decode.specs.declared.rows.Operand.TheVariants.{Scalar}
use Rattle.rsp_syntax.specs.Statement.{read_all}
use Rattle.rsp_syntax.specs.OperandResults.{operand_fails}
use Rattle.rsp_asm.specs.Statements.{count_or_fault}
use Rattle.rsp_asm.proofs.Steps.{too_few, first_read, first_unread, checked_next}
use Rattle.rsp_asm.proofs.row.check_row.Goals as goal

pub returns-in_default : goal.returns-in_default
returns-in_default c =
    let kinds = c.args.kinds.now in
    let i = c.loop-kind.kind-index in
    let address = c.args.address in
    let bad = c.loop-kind.bad in
    ap (count_or_fault address bad 1) (sym (too_few kinds i (omega arith) (Scalar 0)))
    ∙ ap (λ (ts : List (List ℕ)). count_or_fault address bad 1 (read_all (drop i kinds) ts)) (sym c.in_default.ensures)
    ∙ c.loop-kind.invariant

pub returns-in_default-is_out_of_range : goal.returns-in_default-is_out_of_range
returns-in_default-is_out_of_range c =
    let kinds = c.args.kinds.now in
    let i = c.loop-kind.kind-index in
    let address = c.args.address in
    let bad = c.loop-kind.bad in
    ap (count_or_fault address bad 1) (first_unread kinds i (omega arith) (operand_fails address) _ c.in-Some.operand.now c.next.new.self c.in_default-is_out_of_range.ensures)
    ∙ ap (λ (ts : List (List ℕ)). count_or_fault address bad 1 (read_all (drop i kinds) ts)) (sym c.in-Some.ensures)
    ∙ c.loop-kind.invariant

pub loop-kind-preserved : goal.loop-kind-preserved
loop-kind-preserved c =
    let kinds = c.args.kinds.now in
    let i = c.loop-kind.kind-index in
    let address = c.args.address in
    let bad = c.loop-kind.bad in
    checked_next address 1 bad _ (read_all (drop (i + 1) kinds) c.next.new.self) c.in-Some-is_out_of_range.beyond c.in-Some-is_out_of_range.ensures
    ∙ ap (count_or_fault address bad 1) (sym (first_read kinds i (omega arith) _ c.in-Some.operand.now c.next.new.self))
    ∙ ap (λ (ts : List (List ℕ)). count_or_fault address bad 1 (read_all (drop i kinds) ts)) (sym c.in-Some.ensures)
    ∙ c.loop-kind.invariant
