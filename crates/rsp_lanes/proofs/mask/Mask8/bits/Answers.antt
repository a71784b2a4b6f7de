use Rattle.std.proofs.Common.{◌≡◌, ◌∙◌, ◌<◌, ◌%◌, ◌^◌, ℤ, ap, sym, arith, length, map, List, Bool, false, w16}
use mir.Val.{of_z}
use Rattle.std.specs.Simd.Lanes.{mask_l, top}
use Rattle.std.proofs.lemmas.Simd.{mask_l-mod, mask_l-lt}
use Rattle.rsp_lanes.specs.Lanes.{IsMask, truth_values}
use Rattle.rsp_lanes.proofs.Kit.{eta}
use Rattle.rsp_lanes.proofs.Masks.{mask_tops, length-truths}
use Rattle.rsp_lanes.proofs.mask.Mask8.bits.Goals as goal

bits_are : (m : List ℤ) → IsMask m → mask_l (map (top 15) (map (of_z w16) m)) % 2 ^ 64 ≡ mask_l (truth_values m)
bits_are m h =
    let n = length-truths m h in
    ap (λ ms. mask_l ms % 2 ^ 64) (mask_tops m h ∙ sym (eta false _ n)) ∙ mask_l-mod _ 64 (omega (arith, n))

below : (ms : List Bool) → length ms ≡ 8 → mask_l ms < 256
below ms n = rw n at (mask_l-lt ms)

pub overflow_cast-result : goal.overflow_cast-result
overflow_cast-result c = rw (bits_are _ c.self.invariant) (record { fits = below _ (length-truths _ c.self.invariant) })

pub returns : goal.returns
returns c = bits_are _ c.self.invariant ∙ ap mask_l c.self.view_is
