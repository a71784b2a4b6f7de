use Rattle.std.proofs.Common.{◌∙◌}
use Rattle.rsp_lanes.proofs.Kit.{lane_of, each_same}
use Rattle.rsp_lanes.proofs.Signs.{below_signed}
use Rattle.rsp_lanes.proofs.vreg.VReg.is_below_signed.Goals as goal

pub returns : goal.returns
returns c = c.is_below.ensures.value ∙ each_same _ _ (λ i h.
    rw (lane_of 0 _ _ c.add.ensures.value i h, lane_of 0 _ _ c.add-2.ensures.value i h, lane_of 0 _ _ c.splat-half.ensures i h)
    (below_signed _ _ (c.add.ensures.within.0.1 i) (c.add-2.ensures.within.0.1 i)))
