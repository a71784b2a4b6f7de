use Rattle.std.proofs.Common.{arith, ◌∙◌}
use Rattle.rsp_lanes.proofs.Kit.{each1_of, cast_each, zip2_each}
use Rattle.rsp_lanes.proofs.Wide.{high_is, small_product}
use Rattle.rsp_lanes.proofs.vreg.VReg.product.Goals as goal

pub overflow_cast-product-3 : goal.overflow_cast-product-3
overflow_cast-product-3 c =
    let u = c.self.invariant in
    let v = c.other.invariant in
    each1_of _ _ _ (high_is _ _ u v) (λ i h. let s = small_product _ _ (u.1 i) (v.1 i) in record { fits = omega (arith, s) })

pub returns-clause-high : goal.returns-clause-high
returns-clause-high c = c.from_simd.ensures ∙ rw (← c.self.view_is, ← c.other.view_is) (cast_each _ _ (high_is _ _ c.self.invariant c.other.invariant))

pub returns-clause-low : goal.returns-clause-low
returns-clause-low c = c.from_simd-2.ensures ∙ rw (← c.self.view_is, ← c.other.view_is) (zip2_each _ 0 0 _ _ c.self.invariant.0 c.other.invariant.0)
