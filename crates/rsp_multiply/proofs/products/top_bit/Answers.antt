use Rattle.std.proofs.Common.{◌∙◌, refl}
use Rattle.rsp_lanes.proofs.Kit.{lane_of, each_same}
use Rattle.rsp_multiply.proofs.products.top_bit.Goals as goal

pub returns : goal.returns
returns c = c.merge.ensures ∙ each_same _ _ (λ i h.
    rw (lane_of _ _ _ c.is_negative.ensures.value i h, lane_of 0 _ _ c.splat.ensures i h, lane_of 0 _ _ c.splat-2.ensures i h) refl)
