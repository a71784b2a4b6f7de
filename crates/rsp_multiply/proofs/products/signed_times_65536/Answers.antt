use Rattle.std.proofs.Common.{◌∙◌}
use Rattle.rsp_lanes.proofs.Kit.{lane_of, each_same}
use Rattle.rsp_multiply.proofs.Signs.{signed}
use Rattle.rsp_multiply.proofs.Halves.{shifted}
use Rattle.rsp_multiply.proofs.products.signed_times_65536.Goals as goal

pub returns-clause-value : goal.returns-clause-value
returns-clause-value c = c.from_planes.ensures ∙ each_same _ _ (λ i h.
    let s = (signed _ _ (c.signed_product-high.ensures.within.0.1 i) (c.signed_product-high.ensures.within.1.1 i)).1 in
    rw (lane_of 0 _ _ c.signed_product-high.ensures.high i h, lane_of 0 _ _ c.signed_product-high.ensures.low i h, lane_of 0 _ _ c.splat.ensures i h)
    (shifted _ s.wide_low s.wide_high))
