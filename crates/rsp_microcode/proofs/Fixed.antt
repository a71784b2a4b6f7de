-- Fixed-point numbers.
use Rattle.std.proofs.Common.{◌≡◌, ℕ, ◌+◌, ◌*◌, ◌<◌, ℤ, pos, negsuc, ◌+ℤ◌, ◌*ℤ◌, List, get_or, refl, ap, ◌∙◌, arith, inl, inr}
use Rattle.std.proofs.Math.IntN.{+ℤ_idr, zero-*ℤ}
use Rattle.std.proofs.lemmas.Int.{ints}
use borrow.Author.Differences.{up, down}
use Rattle.std.proofs.lemmas.Bool.{cases_lt}
use Rattle.std.proofs.lemmas.Bool.Decides.{nat_tests}
use Rattle.rsp_numbers.specs.Numbers.{s16, s32, s48, clamp16, low}
use Rattle.rsp_numbers.proofs.Signed.{s16_small, s16_large, s32_small, s32_large}
use Rattle.rsp_lanes.specs.Lanes.{each_lane, selected, source_lane}
use Rattle.rsp_lanes.proofs.Kit.{lane_of}
use Rattle.rsp_acc.specs.Parts.{clamp_of}
use Rattle.rsp_acc.specs.declared.parts.Clamp.TheVariants.{Signed, LowKind}
use Rattle.rsp_microcode.specs.Fixed.{limited, last, FixedParts, FixedHigh, FixedRange, FixedSum, FixedTimes}
use Rattle.rsp_microcode.proofs.Halves.{floored}

-- the element 0 selects each lane for itself
pub itself : (v : List ℕ) (i : ℕ) → i < 8 → get_or (selected v 0) i 0 ≡ get_or v i 0
itself v i h = lane_of 0 (λ i. get_or v i 0) (selected v 0) refl i h

-- and another element selects one lane for each
pub picked : (v : List ℕ) (e i : ℕ) → i < 8 → get_or (selected v e) i 0 ≡ get_or v (source_lane e i) 0
picked v e i h = lane_of 0 (λ j. get_or v (source_lane e j) 0) (selected v e) refl i h

pub fixed_parts : FixedParts
fixed_parts a b h k =
    elim (cases_lt a 32768) [
      | inl n ↦ rw (s16_small a n, s32_small (a * 65536 + b) (omega arith)) (omega (arith, ints))
      | inr n ↦ rw (s16_large a n h, s32_large (a * 65536 + b) (omega arith) (omega arith)) (omega (arith, ints))
    ]

pub fixed_high : FixedHigh
fixed_high a b h k = floored _ _ b k (fixed_parts a b h k)

-- it has 32 bits
pub fixed_range : FixedRange
fixed_range high low i is_h is_l =
    elim (cases_lt (get_or high i 0 * 65536 + get_or low i 0) 2147483648) [
      | inl n ↦ rw (s32_small _ n) (omega (arith, ints), omega (arith, ints))
      | inr n ↦ rw (s32_large _ n (omega (arith, is_h.1 i, is_l.1 i))) (omega (arith, ints), omega (arith, ints))
    ]

-- the two clamps of an accumulator, taken as one number, are the limited accumulator
clamped : (x : ℤ) → s32 (clamp_of Signed x * 65536 + clamp_of LowKind x) ≡ limited x
unfolding clamp_of clamp16 low
clamped (pos n) = grind (arith, nat_tests, ints)
clamped (negsuc n) = grind (arith, nat_tests, ints)

nothing : (z : List ℕ) (i : ℕ) → i < 8 → z ≡ each_lane (λ _. 0) → last z i ≡ pos 0
nothing z i h e = rw (lane_of 0 (λ _. 0) z e i h) (zero-*ℤ (s16 (get_or (selected z 0) i 0)))

pub fixed_sum : FixedSum
fixed_sum sum z high low zero is_high is_low i h =
    let top : get_or high i 0 ≡ clamp_of Signed (s48 (sum i)) = lane_of 0 _ high is_high i h in
    let bottom : get_or low i 0 ≡ clamp_of LowKind (s48 (sum i)) =
    lane_of 0 _ low is_low i h ∙ ap (λ x. clamp_of LowKind (s48 (sum i +ℤ x))) (nothing z i h zero) ∙ ap (λ x. clamp_of LowKind (s48 x)) (+ℤ_idr (sum i)) in
    rw (top, bottom) (clamped (s48 (sum i)))

-- a fixed-point number times a whole one, by its halves
times : (c y x : ℤ) (f : ℕ) → c ≡ y *ℤ pos 65536 +ℤ pos f → pos f *ℤ x +ℤ (y *ℤ x) *ℤ pos 65536 ≡ c *ℤ x
times c y x f e =
    let p : up c + 65536 * down y ≡ down c + 65536 * up y + f = omega (arith, ints) in
    omega (arith, ints, ap (λ n. n * up x) p, ap (λ n. n * down x) p)

regroup : (z a b : ℤ) → (z +ℤ a) +ℤ b ≡ z +ℤ (a +ℤ b)
regroup z a b = omega (arith, ints)

pub fixed_times : FixedTimes
fixed_times z high low x e i is_h is_l h =
    rw (picked x e i h) (regroup z _ _ ∙ ap (λ p. z +ℤ p) (times _ (s16 (get_or high i 0)) (s16 (get_or x (source_lane e i) 0)) (get_or low i 0) (fixed_parts (get_or high i 0) (get_or low i 0) (is_h.1 i) (is_l.1 i))))
