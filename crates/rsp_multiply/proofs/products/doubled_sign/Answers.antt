use Rattle.std.proofs.Common.{◌∙◌, refl, false}
use Rattle.rsp_lanes.proofs.Kit.{lane_of, each_same}
use Rattle.rsp_multiply.proofs.products.doubled_sign.Goals as goal

pub returns : goal.returns
returns c = c.merge.ensures ∙ each_same _ _ (λ i h.
    rw (lane_of false _ _ c.is_below_signed-is_large.ensures i h, lane_of 0 _ _ c.splat.ensures i h, lane_of 0 _ _ c.new.ensures i h, lane_of 0 _ _ c.sign.ensures i h) refl)
