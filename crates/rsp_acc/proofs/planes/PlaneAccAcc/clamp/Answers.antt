use Rattle.std.proofs.Common.{pos, sym, false, ◌∙◌}
use Rattle.rsp_lanes.proofs.Kit.{lane_of, each_same}
use Rattle.rsp_acc.proofs.Clamps.{clamp_signed, clamp_unsigned, clamp_low}
use Rattle.rsp_acc.proofs.planes.PlaneAccAcc.clamp.Goals as goal

pub returns-in-Signed : goal.returns-in-Signed
returns-in-Signed c =
    let v = c.self.invariant in
    c.merge.ensures ∙ each_same _ _ (λ i h.
    rw (
      c.in-Signed.is,
      lane_of (pos 0) _ _ (sym c.self.view_is) i h,
      lane_of 0 _ _ c.merge-ends.ensures i h,
      lane_of false _ _ c.is_negative-is_negative.ensures.value i h,
      lane_of false _ _ c.is_equal-fits.ensures.value i h,
      lane_of 0 _ _ c.merge-extension.ensures i h,
      lane_of false _ _ c.is_negative.ensures.value i h,
      lane_of 0 _ _ c.splat-zeros.ensures i h,
      lane_of 0 _ _ c.splat-ones.ensures i h,
      lane_of 0 _ _ c.splat-least.ensures i h,
      lane_of 0 _ _ c.splat-most.ensures i h,
      c.from_simd-high.ensures,
      c.from_simd-middle.ensures,
    ) (clamp_signed _ _ _ (v.0.1 i) (v.1.1 i) (v.2.1 i)))

pub returns-in-Unsigned : goal.returns-in-Unsigned
returns-in-Unsigned c =
    let v = c.self.invariant in
    c.merge-in-Unsigned.ensures ∙ each_same _ _ (λ i h.
    rw (
      c.in-Unsigned.is,
      lane_of (pos 0) _ _ (sym c.self.view_is) i h,
      lane_of 0 _ _ c.merge-inside.ensures i h,
      lane_of false _ _ c.is_negative-is_negative.ensures.value i h,
      lane_of false _ _ c.is_equal-fits.ensures.value i h,
      lane_of 0 _ _ c.merge-extension.ensures i h,
      lane_of false _ _ c.is_negative.ensures.value i h,
      lane_of 0 _ _ c.splat-zeros.ensures i h,
      lane_of 0 _ _ c.splat-ones.ensures i h,
      c.from_simd-high.ensures,
      c.from_simd-middle.ensures,
    ) (clamp_unsigned _ _ _ (v.0.1 i) (v.1.1 i) (v.2.1 i)))

pub returns-in-LowKind : goal.returns-in-LowKind
returns-in-LowKind c =
    let v = c.self.invariant in
    c.merge-in-LowKind.ensures ∙ each_same _ _ (λ i h.
    rw (
      c.in-LowKind.is,
      lane_of (pos 0) _ _ (sym c.self.view_is) i h,
      lane_of 0 _ _ c.merge-ends-in-LowKind.ensures i h,
      lane_of false _ _ c.is_negative-is_negative.ensures.value i h,
      lane_of false _ _ c.is_equal-fits.ensures.value i h,
      lane_of 0 _ _ c.merge-extension.ensures i h,
      lane_of false _ _ c.is_negative.ensures.value i h,
      lane_of 0 _ _ c.splat-zeros.ensures i h,
      lane_of 0 _ _ c.splat-ones.ensures i h,
      c.from_simd-high.ensures,
      c.from_simd-middle.ensures,
      c.from_simd-low.ensures,
    ) (clamp_low _ _ _ (v.0.1 i) (v.1.1 i) (v.2.1 i)))
