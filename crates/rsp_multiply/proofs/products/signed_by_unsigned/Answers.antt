use Rattle.std.proofs.Common.{◌∙◌}
use Rattle.rsp_lanes.proofs.Kit.{lane_of, each_same}
use Rattle.rsp_multiply.proofs.Signs.{mixed}
use Rattle.rsp_multiply.proofs.Halves.{halves_joined}
use Rattle.rsp_multiply.proofs.products.signed_by_unsigned.Goals as goal

pub returns-clause-value : goal.returns-clause-value
returns-clause-value c = c.from_halves.ensures ∙ each_same _ _ (λ i h.
    let s = mixed _ _ (c.mixed_product-high.ensures.within.0.1 i) (c.mixed_product-high.ensures.within.1.1 i) in
    rw (lane_of 0 _ _ c.mixed_product-high.ensures.high i h, lane_of 0 _ _ c.mixed_product-high.ensures.low i h) (halves_joined _ s.low s.high))
