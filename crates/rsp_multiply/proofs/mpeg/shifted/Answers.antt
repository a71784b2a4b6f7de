use Rattle.std.proofs.Common.{◌∙◌}
use Rattle.rsp_lanes.proofs.Kit.{lane_of, each_same}
use Rattle.rsp_multiply.proofs.Roundings.{shifted_lane}
use Rattle.rsp_multiply.proofs.mpeg.shifted.Goals as goal

pub returns : goal.returns
returns c = c.from_planes.ensures ∙ each_same _ _ (λ i h.
    rw (lane_of 0 _ _ c.merge-sign.ensures i h, lane_of _ _ _ c.is_negative.ensures.value i h, lane_of 0 _ _ c.splat.ensures i h, lane_of 0 _ _ c.new-zeros.ensures i h)
    (shifted_lane _ (c.is_negative.ensures.within.1 i)))
