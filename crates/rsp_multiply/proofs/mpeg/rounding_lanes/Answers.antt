use Rattle.std.proofs.Common.{◌∙◌, false, refl}
use Rattle.rsp_lanes.proofs.Kit.{lane_of, each_same}
use Rattle.rsp_multiply.proofs.mpeg.rounding_lanes.Goals as goal

pub returns-in-Vrndp : goal.returns-in-Vrndp
returns-in-Vrndp g c = c.not.ensures ∙ each_same _ _ (λ i h.
    rw (c.in-Vrndp.is, lane_of false _ _ c.negative-negative.ensures i h) refl)
