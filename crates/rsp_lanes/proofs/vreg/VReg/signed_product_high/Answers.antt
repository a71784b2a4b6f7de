use Rattle.std.proofs.Common.{◌∙◌}
use Rattle.rsp_lanes.specs.Lanes.{each_lane}
use Rattle.rsp_lanes.proofs.Products.{product_fits, shifted_fits, high_lanes}
use Rattle.rsp_lanes.proofs.vreg.VReg.signed_product_high.Goals as goal

pub overflow_mul-product : goal.overflow_mul-product
unfolding each_lane
overflow_mul-product c =
    let v = c.signed.ensures.within.1 in
    let w = c.signed-2.ensures.within.1 in
    rw (c.signed.ensures.value, c.signed-2.ensures.value) (
      product_fits _ _ (v 0) (w 0),
      (
        product_fits _ _ (v 1) (w 1),
        (
          product_fits _ _ (v 2) (w 2),
          (
            product_fits _ _ (v 3) (w 3),
            (product_fits _ _ (v 4) (w 4), (product_fits _ _ (v 5) (w 5), (product_fits _ _ (v 6) (w 6), (product_fits _ _ (v 7) (w 7), tt)))),
          ),
        ),
      ),
    )

pub overflow_cast-high : goal.overflow_cast-high
unfolding each_lane
overflow_cast-high c =
    let v = c.signed.ensures.within.1 in
    let w = c.signed-2.ensures.within.1 in
    rw (c.signed.ensures.value, c.signed-2.ensures.value) (
      shifted_fits _ _ (v 0) (w 0),
      (
        shifted_fits _ _ (v 1) (w 1),
        (
          shifted_fits _ _ (v 2) (w 2),
          (
            shifted_fits _ _ (v 3) (w 3),
            (shifted_fits _ _ (v 4) (w 4), (shifted_fits _ _ (v 5) (w 5), (shifted_fits _ _ (v 6) (w 6), (shifted_fits _ _ (v 7) (w 7), tt)))),
          ),
        ),
      ),
    )

pub returns : goal.returns
unfolding each_lane
returns c =
    let v = c.signed.ensures.within.1 in
    let w = c.signed-2.ensures.within.1 in
    c.from_simd.ensures ∙ rw (c.signed.ensures.value, c.signed-2.ensures.value) (high_lanes c.args.self.now c.args.other.now v w)
