use Rattle.std.proofs.Common.{◌≡◌, sym, ap, ◌∙◌, subst, ◌+◌, length, arith}
use Rattle.std.specs.Prelude.{Some, option_map}
use Rattle.std.specs.Option.{option_or}
use Rattle.rsp_asm.specs.Forms.{form}
use Rattle.rsp_asm.specs.Explanations.{verdict, operand}
use Rattle.rsp_asm.specs.FormOperands.{expected_in, IsUsable}
use Rattle.rsp_asm.proofs.Explaining.{usable_at, found, at_refused, at_taken}
use Rattle.rsp_asm.proofs.explanation.faulty_in_form.Goals as goal
use Rattle.rsp_asm.proofs.explanation.faulty_in_form.Goals.{then-beyond, else-beyond}

pub is_refused-requires : goal.is_refused-requires
is_refused-requires c = subst IsUsable (sym c.expected_at-expected.ensures) (usable_at (form c.args.named) c.loop-operand.index c.requires)

pub loop-operand-preserved : goal.loop-operand-preserved
loop-operand-preserved c =
    let labels = option_map (λ t. t.now) c.args.labels in
    let takes = expected_in (form c.args.named) in
    let i = c.loop-operand.index in
    let kept = c.loop-operand.refused in
    let t = c.in-Some.operand.now in
    let ts = c.next.new.self in
    let inv = c.loop-operand.invariant in
    let says : verdict labels (takes i) t ≡ Some c.in-Some-is_refused.beyond =
    ap (λ e. verdict labels e t) (sym c.expected_at-expected.ensures) ∙ sym c.is_refused.ensures ∙ c.in-Some-is_refused.is in
    let last = ap (found labels takes i kept) (sym c.in-Some.ensures) ∙ inv.found in
    let taken = ap length c.in-Some.ensures in
    let count = inv.count in
    elim c.if-beyond.branch [
      | then-beyond w ↦ record {
        found =
            ap (λ k. found labels takes (i + 1) k ts) (w.refused-is ∙ w.or-refused.ensures ∙ ap (λ e. option_or kept (Some (operand i e))) c.expected_at-expected.ensures)
            ∙ at_refused labels takes i kept t ts (says ∙ ap Some w.if-beyond.true)
            ∙ last;
        count = omega (arith, taken, count);
        few = inv.few;
      }
      | else-beyond w ↦ record {
        found = ap (λ k. found labels takes (i + 1) k ts) w.refused-is ∙ at_taken labels takes i kept t ts (says ∙ ap Some w.if-beyond.false) ∙ last;
        count = omega (arith, taken, count);
        few = inv.few;
      }
    ]
