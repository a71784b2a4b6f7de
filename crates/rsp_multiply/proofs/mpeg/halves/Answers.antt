use Rattle.std.proofs.Common.{◌∙◌, false}
use Rattle.rsp_lanes.proofs.Kit.{lane_of, each_same}
use Rattle.rsp_multiply.proofs.Halvings.{half_lane}
use Rattle.rsp_multiply.proofs.mpeg.halves.Goals as goal

pub returns : goal.returns
returns g c = c.from_planes.ensures ∙ each_same _ _ (λ i h.
    rw (
      lane_of 0 _ _ c.add-upper.ensures.value i h,
      lane_of 0 _ _ c.product-upper.ensures.high i h,
      lane_of 0 _ _ c.merge.ensures i h,
      lane_of false _ _ c.is_negative.ensures.value i h,
      lane_of 0 _ _ c.add.ensures.value i h,
      lane_of 0 _ _ c.product-lower.ensures.high i h,
      lane_of 0 _ _ c.product-upper.ensures.low i h,
      lane_of 0 _ _ c.part-high.ensures.value i h,
      lane_of 0 _ _ c.part-middle.ensures.value i h,
      lane_of 0 _ _ c.new-zeros.ensures i h,
      lane_of 0 _ _ c.splat-top.ensures i h,
    ) (half_lane _ (c.part-high.ensures.within.1 i)))
