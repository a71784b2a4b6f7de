use Rattle.std.proofs.Common.{◌≡◌, ◌&&◌, ℤ, false, List, get_or, ◌∙◌, map, bit_and, w16, refl}
use mir.Val.{of_z}
use Rattle.std.specs.Simd.Lanes.{zip2}
use Rattle.rsp_lanes.specs.Lanes.{each_lane, truth_values, IsMask}
use Rattle.rsp_lanes.proofs.Kit.{zip2_of_each, each_same}
use Rattle.rsp_lanes.proofs.Masks.{mask_bits, bits-and, bits_lane, made_mask, made_truths}
use Rattle.rsp_lanes.proofs.mask.Mask8.and.Goals as goal

both : (m n : List ℤ) → IsMask m → IsMask n → zip2 bit_and (map (of_z w16) m) (map (of_z w16) n) ≡ each_lane (λ i. bits_lane (get_or (truth_values m) i false && get_or (truth_values n) i false))
both m n f g = rw (mask_bits m f, mask_bits n g) (zip2_of_each bit_and _ _ ∙ each_same _ _ (λ i h. bits-and (get_or (truth_values m) i false) (get_or (truth_values n) i false)))

pub invariant_of-result : goal.invariant_of-result
invariant_of-result c = made_mask _ _ (both _ _ c.self.invariant c.other.invariant)

pub returns : goal.returns
returns c = made_truths _ _ (both _ _ c.self.invariant c.other.invariant) ∙ each_same _ _ (λ i h. rw (← c.self.view_is, ← c.other.view_is) refl)
