use Rattle.std.proofs.Common.{◌≡◌, ◌-◌, ℤ, false, not, List, get_or, ◌∙◌, map, w16, refl}
use mir.Val.{of_z}
use Rattle.rsp_lanes.specs.Lanes.{each_lane, truth_values, IsMask}
use Rattle.rsp_lanes.proofs.Kit.{map_of_each, each_same}
use Rattle.rsp_lanes.proofs.Masks.{mask_bits, bits-not, bits_lane, made_mask, made_truths}
use Rattle.rsp_lanes.proofs.mask.Mask8.not.Goals as goal

other : (m : List ℤ) → IsMask m → map (λ b. 65535 - b) (map (of_z w16) m) ≡ each_lane (λ i. bits_lane (not (get_or (truth_values m) i false)))
other m f = rw (mask_bits m f) (map_of_each (λ b. 65535 - b) _ ∙ each_same _ _ (λ i h. bits-not (get_or (truth_values m) i false)))

pub invariant_of-result : goal.invariant_of-result
invariant_of-result c = made_mask _ _ (other _ c.self.invariant)

pub returns : goal.returns
returns c = made_truths _ _ (other _ c.self.invariant) ∙ each_same _ _ (λ i h. rw (← c.self.view_is) refl)
