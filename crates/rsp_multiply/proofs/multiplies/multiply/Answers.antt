use Rattle.std.proofs.Common.{◌≡◌, ◌∙◌, refl, rules, true, false, sym, pos}
use Rattle.rsp_lanes.proofs.Kit.{lane_of, each_same}
use Rattle.rsp_multiply.specs.MultiplyRules.{multiply_rule, accumulators_after, multiply_results}
use Rattle.rsp_multiply.proofs.Fits.{addend_again}
use Rattle.rsp_multiply.proofs.multiplies.multiply.Goals as goal
use Rattle.rsp_multiply.proofs.multiplies.multiply.Goals.{then-adds, else-adds}

pub returns-clause-accumulators : goal.returns-clause-accumulators
unfolding accumulators_after
returns-clause-accumulators g c =
    elim c.if-adds.branch [
      | then-adds w ↦
          let yes : (multiply_rule c.args.op).adds ≡ true = sym c.adds.ensures ∙ w.if-adds.true in
          rw w.acc-is (w.add.ensures.value ∙ each_same _ _ (λ i h. rw (yes, lane_of (pos 0) _ _ c.addends-addends.ensures.value i h) refl))
      | else-adds w ↦
          let no : (multiply_rule c.args.op).adds ≡ false = sym c.adds.ensures ∙ w.if-adds.false in
          rw w.acc-is (w.replace.ensures ∙ c.addends-addends.ensures.value ∙ each_same _ _ (λ i h. rw no (sym (addend_again _ _ (c.addends-addends.ensures.within.0.1 i) (c.addends-addends.ensures.within.1.1 i) c.args.op))))
    ]

pub returns-clause-value : goal.returns-clause-value
unfolding multiply_results
returns-clause-value g c = search rules
