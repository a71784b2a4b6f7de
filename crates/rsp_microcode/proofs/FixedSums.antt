-- The sum of fixed-point numbers, by VADDC and VADD.
use Rattle.std.proofs.Common.{◌≡◌, ℕ, ◌+◌, ◌*◌, ◌%◌, ◌<◌, Bool, false, ℤ, pos, negsuc, ◌+ℤ◌, ◌*ℤ◌, get_or, nat_lt, refl, ap, sym, ◌∙◌, arith, inl, inr}
use Rattle.std.specs.Prelude.{◌≤ℤ◌}
use Rattle.std.proofs.lemmas.Int.{ints}
use Rattle.std.proofs.lemmas.Bool.{cases_lt, lt-ltb, le-ltb}
use Rattle.rsp_numbers.specs.Numbers.{s16, s32, sixteen_bits, clamp16, floor_div}
use Rattle.rsp_lanes.specs.Lanes.{bit, selected}
use Rattle.rsp_lanes.specs.Outcome.{results_of, flags_after}
use Rattle.rsp_lanes.proofs.Kit.{lane_of}
use Rattle.rsp_compare.specs.Adds.{vaddc}
use Rattle.rsp_microcode.specs.Fixed.{fixed_added, FixedAdds, FixedAddsInRange}
use Rattle.rsp_microcode.proofs.Fixed.{fixed_parts, picked}
use Rattle.rsp_microcode.proofs.Halves.{sixteen_below, clamp_read, clamp_keeps, floored, rest_of}

-- the halves of the sum of the numbers whose halves are a, b and c, d
abbrev low_sum : ℕ → ℕ → ℕ
low_sum b d = (b + d) % 65536

abbrev high_sum : ℕ → ℕ → ℕ → ℕ → ℤ
high_sum a b c d = s16 a +ℤ s16 c +ℤ pos (bit (nat_lt 65535 (b + d)))

carried : (n : ℕ) → n < 131072 → bit (nat_lt 65535 n) * 65536 + n % 65536 ≡ n
carried n h = elim (cases_lt 65535 n) [
  | inl lt ↦ rw (lt-ltb 65535 n lt) (omega arith)
  | inr ge ↦ rw (le-ltb 65535 n ge) (omega arith)
]

sum_is : (a b c d : ℕ) → a < 65536 → b < 65536 → c < 65536 → d < 65536
    → s32 (sixteen_bits (clamp16 (high_sum a b c d)) * 65536 + low_sum b d) ≡ fixed_added (s32 (a * 65536 + b)) (s32 (c * 65536 + d))
sum_is a b c d ha hb hc hd =
    let x = fixed_parts a b ha hb in
    let y = fixed_parts c d hc hd in
    let u = carried (b + d) (omega arith) in
    let z = s32 (a * 65536 + b) +ℤ s32 (c * 65536 + d) in
    let e : z ≡ high_sum a b c d *ℤ pos 65536 +ℤ pos (low_sum b d) = omega (arith, ints) in
    fixed_parts (sixteen_bits (clamp16 (high_sum a b c d))) (low_sum b d) (sixteen_below (clamp16 (high_sum a b c d))) (omega arith)
    ∙ ap (λ h. h *ℤ pos 65536 +ℤ pos (low_sum b d)) (clamp_read (high_sum a b c d) ∙ ap clamp16 (sym (floored z (high_sum a b c d) (low_sum b d) (omega arith) e)))
    ∙ ap (λ l. clamp16 (floor_div z 65536) *ℤ pos 65536 +ℤ pos l) (sym (rest_of z (high_sum a b c d) (low_sum b d) (omega arith) e))

pub fixed_adds : FixedAdds
unfolding results_of flags_after
fixed_adds a b c d high low e f is_a is_b is_c is_d is_high is_low i h =
    let carry : get_or (flags_after vaddc b (selected d e) f).carry i false ≡ nat_lt 65535 (get_or b i 0 + get_or (selected d e) i 0) = lane_of false _ _ refl i h in
    let top : get_or high i 0 ≡ sixteen_bits (clamp16 (high_sum (get_or a i 0) (get_or b i 0) (get_or (selected c e) i 0) (get_or (selected d e) i 0))) =
    lane_of 0 _ high is_high i h ∙ ap (λ (k : Bool). sixteen_bits (clamp16 (s16 (get_or a i 0) +ℤ s16 (get_or (selected c e) i 0) +ℤ pos (bit k)))) carry in
    let bottom : get_or low i 0 ≡ low_sum (get_or b i 0) (get_or (selected d e) i 0) = lane_of 0 _ low is_low i h in
    rw (top, bottom, picked c e i h, picked d e i h) (sum_is _ _ _ _ (is_a.1 i) (is_b.1 i) (is_c.1 _) (is_d.1 _))

pub fixed_adds_in_range : FixedAddsInRange
fixed_adds_in_range x y least most =
    let z = x +ℤ y in
    let q = floor_div z 65536 in
    let p : (negsuc 32767 ≤ℤ q) × (q ≤ℤ pos 32767) × (q *ℤ pos 65536 +ℤ pos (sixteen_bits z) ≡ z) = parts z least most in
    ap (λ h. h *ℤ pos 65536 +ℤ pos (sixteen_bits z)) (clamp_keeps q p.0 p.1) ∙ p.2
  where
    parts : (z : ℤ) → negsuc 2147483647 ≤ℤ z → z ≤ℤ pos 2147483647
        → (negsuc 32767 ≤ℤ floor_div z 65536) × (floor_div z 65536 ≤ℤ pos 32767) × (floor_div z 65536 *ℤ pos 65536 +ℤ pos (sixteen_bits z) ≡ z)
    parts (pos n) p q = (omega (arith, ints), omega (arith, ints), omega (arith, ints))
    parts (negsuc n) p q = (omega (arith, ints), omega (arith, ints), omega (arith, ints))
