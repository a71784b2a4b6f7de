-- Twice a product of 32 bits, by the halves of the product.
use Rattle.std.proofs.Common.{◌≡◌, ◌∙◌, ℕ, ◌+◌, ◌-◌, ◌*◌, ◌/◌, ◌%◌, ◌^◌, ◌<◌, ◌≤◌, ℤ, pos, negsuc, ◌+ℤ◌, ◌*ℤ◌, cond, nat_lt, arith, refl, ap, inl, inr}
use Rattle.std.specs.Prelude.{◌≤ℤ◌}
use Rattle.std.proofs.lemmas.Int.{ints}
use Rattle.std.proofs.lemmas.Bool.{lt-ltb, le-ltb, cases_lt}
use Rattle.std.proofs.lemmas.Bool.Decides.{nat_tests}
use Rattle.rsp_numbers.specs.Numbers.{sixteen_bits, upper_bits, floor_div, join}
use Rattle.rsp_numbers.proofs.Signed.{s16_small, s16_large}
use Rattle.rsp_numbers.proofs.Join.{join_small, join_large}
use Rattle.rsp_multiply.specs.Doubles.{doubled_high, doubled_low, doubled_sign}

-- the carry of a doubled half
carry : (l : ℕ) → l < 65536 → cond (nat_lt 32767 l) 1 0 ≡ (l + l) / 65536
carry l h = grind (arith, nat_tests)

-- the sign, by that of the product
sign_small : (h m : ℕ) → h < 32768 → (h ≤ 16382 → m < 32768) → doubled_sign h m ≡ 0
sign_small h m a b = rw (s16_small h a) (grind (arith, nat_tests))

sign_large : (h m : ℕ) → 32768 ≤ h → h < 65536 → doubled_sign h m ≡ cond (nat_lt 32767 m) 65535 0
sign_large h m a b = rw (s16_large h a b) refl

small_doubled : (h l : ℕ) → l < 65536 → h ≤ 16382 → doubled_high h l < 32768
small_doubled h l a b = rw (carry l a) (omega arith)

large_doubled : (h l : ℕ) → l < 65536 → 49152 ≤ h → h < 65536 → 32767 < doubled_high h l
large_doubled h l a b c = rw (carry l a) (omega arith)

-- the planes of twice z
pub twice : (z : ℤ) → negsuc (2 ^ 30 - 1) ≤ℤ z → z ≤ℤ pos (2 ^ 30)
    → join (doubled_sign (upper_bits z) (doubled_high (upper_bits z) (sixteen_bits z))) (doubled_high (upper_bits z) (sixteen_bits z)) (doubled_low (sixteen_bits z)) ≡ pos 2 *ℤ z
twice (pos n) low high =
    let b : n ≤ 2 ^ 30 = omega (arith, ints) in
    let s = sign_small (n / 65536 % 65536) (doubled_high (n / 65536 % 65536) (n % 65536)) (omega arith) (small_doubled _ (n % 65536) (omega arith)) in
    rw (s, carry (n % 65536) (omega arith)) (join_small 0 _ _ (omega arith) (omega arith) (omega arith) ∙ ap pos (omega arith))
twice (negsuc n) low high =
    let b : n < 2 ^ 30 = omega (arith, ints) in
    let h = 65535 - n / 65536 % 65536 in
    let m = large_doubled h (65535 - n % 65536) (omega arith) (omega arith) (omega arith) in
    rw (sign_large h (doubled_high h (65535 - n % 65536)) (omega arith) (omega arith), lt-ltb 32767 (doubled_high h (65535 - n % 65536)) m, carry (65535 - n % 65536) (omega arith))
    (join_large 65535 _ _ (omega arith) (omega arith) (omega arith) (omega arith) ∙ omega (arith, ints))

-- the middle plane of twice z and 32768
abbrev pub rounded_middle : ℕ → ℕ → ℕ
rounded_middle h l = (doubled_high h l + cond (nat_lt 32767 (doubled_low l)) 1 0) % 65536

-- the middle and the low plane of twice z and 32768, as one number
rounded_number : (h l : ℕ) → h < 65536 → l < 65536 → rounded_middle h l * 65536 + (doubled_low l + 32768) % 65536 ≡ (2 * (h * 65536 + l) + 32768) % 2 ^ 32
rounded_number h l a b = rw (carry l b, carry (doubled_low l) (omega arith)) (omega arith)

-- the planes of twice z and 32768; m and l are the middle and the low one
rounded_planes : (z : ℤ) (m l : ℕ) → negsuc (2 ^ 30 - 1) ≤ℤ z → z ≤ℤ pos (2 ^ 30) → m < 65536 → l < 65536
    → m * 65536 + l ≡ (2 * (upper_bits z * 65536 + sixteen_bits z) + 32768) % 2 ^ 32
    → join (doubled_sign (upper_bits z) m) m l ≡ pos 2 *ℤ z +ℤ pos 32768
rounded_planes (pos n) m l low high a b e =
    let c : n ≤ 2 ^ 30 = omega (arith, ints) in
    let f : m * 65536 + l ≡ 2 * n + 32768 = omega (arith, e) in
    rw (sign_small (n / 65536 % 65536) m (omega arith) (λ s. omega (arith, f, s))) (join_small 0 _ _ (omega arith) a b ∙ ap pos (omega (arith, f)))
rounded_planes (negsuc n) m l low high a b e =
    let c : n < 2 ^ 30 = omega (arith, ints) in
    let f : m * 65536 + l ≡ (2 * (2 ^ 32 - 1 - n) + 32768) % 2 ^ 32 = omega (arith, e) in
    rw (sign_large (65535 - n / 65536 % 65536) m (omega arith) (omega arith)) (elim (cases_lt m 32768) [
      | inl s ↦ rw (le-ltb 32767 m (omega arith)) (join_small 0 _ _ (omega arith) a b ∙ omega (arith, ints, f))
      | inr s ↦ rw (lt-ltb 32767 m (omega arith)) (join_large 65535 _ _ (omega arith) (omega arith) a b ∙ omega (arith, ints, f))
    ])

pub twice_rounded : (z : ℤ) → negsuc (2 ^ 30 - 1) ≤ℤ z → z ≤ℤ pos (2 ^ 30)
    → join (doubled_sign (upper_bits z) (rounded_middle (upper_bits z) (sixteen_bits z))) (rounded_middle (upper_bits z) (sixteen_bits z)) ((doubled_low (sixteen_bits z) + 32768) % 65536)
    ≡ pos 2 *ℤ z +ℤ pos 32768
twice_rounded z low high = rounded_planes z _ _ low high (omega arith) (omega arith) (rounded_number (upper_bits z) (sixteen_bits z) (below (floor_div z 65536)) (below z))
  where
    below : (x : ℤ) → sixteen_bits x < 65536
    below (pos n) = omega arith
    below (negsuc n) = omega arith
