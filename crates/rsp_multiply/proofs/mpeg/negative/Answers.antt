use Rattle.std.proofs.Common.{◌∙◌}
use Rattle.rsp_lanes.proofs.Kit.{lane_of, each_same}
use Rattle.rsp_multiply.proofs.Roundings.{negative_high}
use Rattle.rsp_multiply.proofs.mpeg.negative.Goals as goal

pub returns : goal.returns
returns g c = c.is_negative.ensures.value ∙ each_same _ _ (λ i h.
    rw (lane_of 0 _ _ c.part.ensures.value i h) (negative_high _ (c.part.ensures.within.1 i)))
