use Rattle.std.proofs.Common.{subst, ◌∙◌, ℕ, List, IfOk, min, [], ◌∷◌}
use Rattle.std.specs.String.{string_bytes}
use Rattle.rsp_explain.specs.Said.{AreExplained, text_faults}
use Rattle.rsp_explain.specs.Replies.{open_fault}
use Rattle.rsp_explain.proofs.replies.explain_block.Goals as goal

pub returns-then-is_closed : goal.returns-then-is_closed
returns-then-is_closed c =
    let head = c.args.head in let number = c.args.number in
    rw c.if-is_closed.true (
    subst (λ (text : List ℕ). IfOk c.explain_text.result (λ said. AreExplained head number (text_faults text (min c.args.origin 4092)) (string_bytes said)))
    (c.as_str.ensures.value ∙ c.in_ok-text.ensures)
    (subst (λ (origin : ℕ). IfOk c.explain_text.result (λ said. AreExplained head number (text_faults c.as_str.result.now origin) (string_bytes said)))
    c.min.ensures c.explain_text.ensures.faults)
    )

pub returns : goal.returns
returns c =
    let head = c.args.head in let number = c.args.number in
    rw c.if-is_closed.false (
    subst (λ (text : List ℕ). IfOk c.explain_open.result (λ said. AreExplained head number (open_fault text ∷ []) (string_bytes said)))
    (c.as_str-else-is_closed.ensures.value ∙ c.in_ok-text.ensures) c.explain_open.ensures
    )
