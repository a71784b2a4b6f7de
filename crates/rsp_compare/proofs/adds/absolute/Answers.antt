use Rattle.std.proofs.Common.{ap, sym, false}
use Rattle.rsp_lanes.proofs.Kit.{lane_of}
use Rattle.rsp_lanes.proofs.Rules.{results_are, lows_are, flags_are}
use Rattle.rsp_compare.proofs.Sums.{abs_is}
use Rattle.rsp_compare.proofs.adds.absolute.Goals as goal

pub returns-clause-value : goal.returns-clause-value
returns-clause-value c = results_are _ _ _ _ _ _ c.merge.ensures (λ i h.
    simp (
      lane_of false _ _ c.and-passes.ensures i h,
      lane_of false _ _ c.is_negative-negative.ensures.value i h,
      lane_of false _ _ c.is_zero.ensures.value i h,
      lane_of false _ _ c.is_equal.ensures.value i h,
      lane_of 0 _ _ c.merge-low.ensures i h,
      lane_of 0 _ _ c.merge-signed.ensures i h,
      lane_of 0 _ _ c.negate.ensures.value i h,
      lane_of 0 _ _ c.new.ensures i h,
      lane_of 0 _ _ c.splat.ensures i h,
      lane_of 0 _ _ c.splat-2.ensures i h,
    ) (ap (λ x. x.result) (sym (abs_is _ _ _ (c.is_zero.ensures.within.1 i) (c.negate.ensures.within.1 i)))))

pub returns-clause-low : goal.returns-clause-low
returns-clause-low c = lows_are _ _ _ _ _ _ c.merge-low.ensures (λ i h.
    rw (
      lane_of false _ _ c.is_zero.ensures.value i h,
      lane_of 0 _ _ c.merge-signed.ensures i h,
      lane_of false _ _ c.is_negative-negative.ensures.value i h,
      lane_of 0 _ _ c.negate.ensures.value i h,
      lane_of 0 _ _ c.new.ensures i h,
    ) (ap (λ x. x.low) (sym (abs_is _ _ _ (c.is_zero.ensures.within.1 i) (c.negate.ensures.within.1 i)))))

pub returns-clause-flags : goal.returns-clause-flags
returns-clause-flags c = flags_are _ _ _ _ _ _ c.vco.ensures.within (λ i h. ap (λ x. x.flags) (sym (abs_is _ _ _ (c.is_zero.ensures.within.1 i) (c.negate.ensures.within.1 i))))
