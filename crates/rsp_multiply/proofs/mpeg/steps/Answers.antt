use Rattle.std.proofs.Common.{◌∙◌, false}
use Rattle.rsp_lanes.proofs.Kit.{lane_of, each_same}
use Rattle.rsp_multiply.proofs.Halvings.{step_lane}
use Rattle.rsp_multiply.proofs.mpeg.steps.Goals as goal

pub returns : goal.returns
returns g c = c.merge-2.ensures ∙ each_same _ _ (λ i h.
    rw (
      lane_of false _ _ c.and-is_small.ensures i h,
      lane_of false _ _ c.is_zero.ensures.value i h,
      lane_of false _ _ c.is_below.ensures.value i h,
      lane_of 0 _ _ c.merge.ensures i h,
      lane_of false _ _ c.is_zero-is_clear.ensures.value i h,
      lane_of 0 _ _ c.and.ensures.value i h,
      lane_of 0 _ _ c.merge-step.ensures i h,
      lane_of false _ _ c.is_negative.ensures.value i h,
      lane_of 0 _ _ c.part-high.ensures.value i h,
      lane_of 0 _ _ c.part-middle.ensures.value i h,
      lane_of 0 _ _ c.new-zeros.ensures i h,
      lane_of 0 _ _ c.splat.ensures i h,
      lane_of 0 _ _ c.splat-2.ensures i h,
      lane_of 0 _ _ c.splat-3.ensures i h,
      lane_of 0 _ _ c.splat-4.ensures i h,
    ) (step_lane _ (c.part-high.ensures.within.1 i)))
