use Rattle.std.proofs.Common.{◌∙◌, ap, pos, arith}
use Rattle.std.proofs.lemmas.Nat.{mul-lt}
use Rattle.rsp_lanes.proofs.Kit.{lane_of, each_same}
use Rattle.rsp_numbers.proofs.Join.{join_small}
use Rattle.rsp_multiply.proofs.products.unsigned_over_65536.Goals as goal

pub returns-clause-value : goal.returns-clause-value
returns-clause-value c = c.from_planes.ensures ∙ each_same _ _ (λ i h.
    let s = mul-lt _ _ 65536 65536 (c.product-high.ensures.within.0.1 i) (c.product-high.ensures.within.1.1 i) in
    rw (lane_of 0 _ _ c.splat-zeros.ensures i h, lane_of 0 _ _ c.product-high.ensures.high i h) (join_small 0 0 _ (omega arith) (omega arith) (omega (arith, s)) ∙ ap pos (omega arith)))
