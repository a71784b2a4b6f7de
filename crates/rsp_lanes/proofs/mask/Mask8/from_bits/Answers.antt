use Rattle.std.proofs.Common.{◌≡◌, ◌∙◌, ℕ, [], ◌∷◌, replicate, not, nat_eq, bit_and, refl}
use Rattle.std.specs.Simd.Lanes.{zip2}
use Rattle.rsp_lanes.specs.Lanes.{each_lane}
use Rattle.rsp_numbers.specs.Numbers.{bit_set}
use Rattle.rsp_lanes.proofs.Masks.{made_mask, made_truths, bit_test, bits_lane}
use Rattle.rsp_lanes.proofs.mask.Mask8.from_bits.Goals as goal

are : (n : ℕ) → zip2 (λ x y. bits_lane (not (nat_eq x y))) (zip2 bit_and (replicate 8 n) (1 ∷ 2 ∷ 4 ∷ 8 ∷ 16 ∷ 32 ∷ 64 ∷ 128 ∷ [])) (replicate 8 0) ≡ each_lane (λ i. bits_lane (bit_set n i))
unfolding each_lane
are n = rw (bit_test n 0, bit_test n 1, bit_test n 2, bit_test n 3, bit_test n 4, bit_test n 5, bit_test n 6, bit_test n 7) refl

pub from_simd-requires : goal.from_simd-requires
from_simd-requires c = rw c.from.ensures (made_mask (bit_set c.args.bits) _ (are c.args.bits))

pub returns : goal.returns
returns c = c.from_simd.ensures ∙ rw c.from.ensures (made_truths (bit_set c.args.bits) _ (are c.args.bits))
