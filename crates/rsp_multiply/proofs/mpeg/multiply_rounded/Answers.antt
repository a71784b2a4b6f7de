use Rattle.std.proofs.Common.{◌∙◌, pos, false}
use Rattle.rsp_lanes.proofs.Kit.{lane_of, each_same}
use Rattle.rsp_multiply.specs.Mpeg.{accumulators_after_mpeg}
use Rattle.rsp_multiply.proofs.Signs.{signed}
use Rattle.rsp_multiply.proofs.Halvings.{product_rounded}
use Rattle.rsp_multiply.proofs.mpeg.multiply_rounded.Goals as goal

pub returns : goal.returns
unfolding accumulators_after_mpeg
returns g c = c.add.ensures.value ∙ each_same _ _ (λ i h.
    let s = (signed _ _ (c.signed_times_65536.ensures.within.0.1 i) (c.signed_times_65536.ensures.within.1.1 i)).1 in
    rw (
      lane_of (pos 0) _ _ c.shifted.ensures i h,
      lane_of 0 _ _ c.merge-rounding.ensures i h,
      lane_of false _ _ c.negative.ensures i h,
      c.replace.ensures,
      lane_of (pos 0) _ _ c.signed_times_65536.ensures.value i h,
      lane_of 0 _ _ c.splat.ensures i h,
      lane_of 0 _ _ c.new.ensures i h,
    ) (product_rounded _ s.low s.high))
