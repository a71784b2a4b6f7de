use Rattle.std.proofs.Common.{◌∙◌, pos, get_or, false, ap}
use Rattle.rsp_numbers.specs.Numbers.{sixteen_bits}
use Rattle.rsp_lanes.proofs.Kit.{lane_of, each_same}
use Rattle.rsp_lanes.proofs.Saturation.{made_lanes, made_range}
use Rattle.rsp_lanes.proofs.Sums.{greater_more, carried}
use Rattle.rsp_lanes.proofs.vreg.VReg.add_clamped.Goals as goal

pub saturated-requires-clause-lanes : goal.saturated-requires-clause-lanes
saturated-requires-clause-lanes c = made_lanes (greater_more _ _ _ _ _ c.greater.ensures.within.0 c.greater.ensures.within.1 c.wide.ensures.within c.greater.ensures.value c.wide.ensures.value)

pub saturated-requires-clause-range : goal.saturated-requires-clause-range
saturated-requires-clause-range c = made_range (greater_more _ _ _ _ _ c.greater.ensures.within.0 c.greater.ensures.within.1 c.wide.ensures.within c.greater.ensures.value c.wide.ensures.value)

pub returns : goal.returns
returns c =
    let more = greater_more _ _ _ _ _ c.greater.ensures.within.0 c.greater.ensures.within.1 c.wide.ensures.within c.greater.ensures.value c.wide.ensures.value in
    c.saturated.ensures ∙ each_same _ _ (λ i h.
    rw (
      lane_of (pos 0) _ _ more.is i h,
      lane_of 0 _ _ c.subtract-carried.ensures.value i h,
      lane_of 0 _ _ c.merge-minus_carry.ensures i h,
      lane_of 0 _ _ c.splat.ensures i h,
      lane_of 0 _ _ c.new.ensures i h,
    )
    (ap sixteen_bits (carried _ _ _ (get_or c.args.carry i false) (c.greater.ensures.within.0.1 i) (c.greater.ensures.within.1.1 i) (c.subtract-carried.ensures.within.0.1 i) (c.clamped_lesser-lesser.ensures i h))))
