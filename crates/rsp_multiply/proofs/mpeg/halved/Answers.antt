use Rattle.std.proofs.Common.{◌∙◌, pos}
use Rattle.rsp_lanes.proofs.Kit.{lane_of, each_same}
use Rattle.rsp_multiply.specs.Mpeg.{mpeg_results}
use Rattle.rsp_multiply.proofs.Halvings.{cut, half_clamped}
use Rattle.rsp_multiply.proofs.mpeg.halved.Goals as goal

pub returns : goal.returns
unfolding mpeg_results
returns g c = c.and.ensures.value ∙ each_same _ _ (λ i h.
    rw (lane_of 0 _ _ c.splat.ensures i h, cut _ (c.and.ensures.within.0.1 i), lane_of 0 _ _ c.clamp-clamped.ensures i h, c.replace.ensures, lane_of (pos 0) _ _ c.halves.ensures i h)
    (half_clamped _))
