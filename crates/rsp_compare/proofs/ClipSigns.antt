-- Signed values of sixteen bits, by tests of the unsigned ones.
use Rattle.std.proofs.Common.{◌≡◌, ℕ, ◌+◌, ◌-◌, ◌*◌, ◌%◌, ◌/◌, ◌<◌, ◌≤◌, ℤ, pos, negsuc, ◌+ℤ◌, ◌-ℤ◌, Bool, true, false, cond, nat_lt, nat_eq, arith, refl, ap, sym, inl, inr}
use Rattle.std.specs.Prelude.{int_lt, ◌≤ℤ◌, ◌<ℤ◌}
use Rattle.std.specs.Ordering.{int_eq}
use Rattle.std.proofs.lemmas.Int.{ints}
use Rattle.std.proofs.lemmas.Bool.{cases_lt, le-ltb, lt-ltb}
use Rattle.std.proofs.lemmas.Bool.Decides.{nat_tests}
use Rattle.rsp_lanes.specs.Lanes.{bool_xor}
use Rattle.rsp_numbers.specs.Numbers.{s16, modulo, negated}
use Rattle.rsp_compare.specs.Clips.{signs_differ}
use Rattle.rsp_compare.specs.ClipParts.{sum_or_difference}

small : (a : ℕ) → a < 32768 → s16 a ≡ pos a
small a h = omega (arith, ints)

large : (a : ℕ) → 32768 ≤ a → s16 a ≡ negsuc (65535 - a)
large a h = rw (le-ltb a 32768 h) (ap negsuc (omega arith))

-- the two signs of a lane
by_sign : (P : Bool → ℤ → Type 0) (a : ℕ) → (a < 32768 → P false (pos a)) → (32768 ≤ a → P true (negsuc (65535 - a))) → P (nat_lt 32767 a) (s16 a)
by_sign P a p q = elim (cases_lt a 32768) [
  | inl n ↦ rw (le-ltb 32767 a (omega arith), small a n) (p n)
  | inr n ↦ rw (lt-ltb 32767 a (omega arith), large a n) (q n)
]

pub below_zero : (a : ℕ) → int_lt (s16 a) (pos 0) ≡ nat_lt 32767 a
below_zero a = by_sign (λ t z. int_lt z (pos 0) ≡ t) a (λ n. grind (arith, nat_tests)) (λ n. refl)

by_reading : (P : Bool → ℤ → Type 0) (a : ℕ) → (a < 32768 → P false (pos a)) → (32768 ≤ a → P true (negsuc (65535 - a))) → P (int_lt (s16 a) (pos 0)) (s16 a)
by_reading P a p q = rw (below_zero a) (by_sign P a p q)

-- the signed numbers of sixteen bits
pub record IsSigned (z : ℤ) : Type 0 where
  pub least : negsuc 32767 ≤ℤ z
  pub most : z <ℤ pos 32768

-- their tests, by their sixteen bits
pub is_negative : (z : ℤ) → IsSigned z → nat_lt 32767 (modulo z 65536) ≡ int_lt z (pos 0)
is_negative (pos n) h = let most = h.most in grind (arith, nat_tests)
is_negative (negsuc n) h = let least = h.least in grind (arith, nat_tests)

pub is_zero : (z : ℤ) → IsSigned z → nat_eq (modulo z 65536) 0 ≡ int_eq z (pos 0)
is_zero (pos n) h = let most = h.most in grind (arith, nat_tests)
is_zero (negsuc n) h = let least = h.least in grind (arith, nat_tests)

pub is_minus_one : (z : ℤ) → IsSigned z → nat_eq (modulo z 65536) 65535 ≡ int_eq z (negsuc 0)
is_minus_one (pos n) h = let most = h.most in grind (arith, nat_tests)
is_minus_one (negsuc n) h = let least = h.least in grind (arith, nat_tests)

-- the sixteen bits of z are the number below 65536 that differs from it by a multiple of 65536
modulo_is : (z : ℤ) (n i j : ℕ) → n < 65536 → z +ℤ pos (65536 * i) ≡ pos (n + 65536 * j) → modulo z 65536 ≡ n
modulo_is (pos m) n i j h e = omega (arith, ints)
modulo_is (negsuc m) n i j h e = omega (arith, ints)

-- what holds of the sum if the signs differ, and else of the difference
by_signs : (P : Bool → ℤ → Type 0) (a b : ℕ) → a < 65536 → b < 65536
    → (a < 32768 → 32768 ≤ b → P true (pos a +ℤ negsuc (65535 - b)))
    → (32768 ≤ a → b < 32768 → P true (negsuc (65535 - a) +ℤ pos b))
    → (a < 32768 → b < 32768 → P false (pos a -ℤ pos b))
    → (32768 ≤ a → 32768 ≤ b → P false (negsuc (65535 - a) -ℤ negsuc (65535 - b)))
    → P (signs_differ a b) (sum_or_difference a b)
by_signs P a b h k p q r s =
    by_reading (λ t y. P (bool_xor t (int_lt (s16 b) (pos 0))) (cond (bool_xor t (int_lt (s16 b) (pos 0))) (y +ℤ s16 b) (y -ℤ s16 b))) a
    (λ m. by_reading (λ u z. P u (cond u (pos a +ℤ z) (pos a -ℤ z))) b (λ n. r m n) (λ n. p m n))
    (λ m. by_reading (λ u z. P (bool_xor true u) (cond (bool_xor true u) (negsuc (65535 - a) +ℤ z) (negsuc (65535 - a) -ℤ z))) b (λ n. q m n) (λ n. s m n))

-- it is a signed number of sixteen bits
pub sum_or_difference_signed : (a b : ℕ) → a < 65536 → b < 65536 → IsSigned (sum_or_difference a b)
sum_or_difference_signed a b h k = by_signs (λ t z. IsSigned z) a b h k
    (λ m n. record { least = omega (arith, ints); most = omega (arith, ints) })
    (λ m n. record { least = omega (arith, ints); most = omega (arith, ints) })
    (λ m n. record { least = omega (arith, ints); most = omega (arith, ints) })
    (λ m n. record { least = omega (arith, ints); most = omega (arith, ints) })

-- and its sixteen bits are the sum or the difference of those of a and b
pub sum_or_difference_is : (a b : ℕ) → a < 65536 → b < 65536
    → cond (signs_differ a b) ((a + b) % 65536) ((a + (65536 - b)) % 65536) ≡ modulo (sum_or_difference a b) 65536
sum_or_difference_is a b h k = by_signs (λ t z. cond t ((a + b) % 65536) ((a + (65536 - b)) % 65536) ≡ modulo z 65536) a b h k
    (λ m n. sym (modulo_is _ _ 1 ((a + b) / 65536) (omega arith) (omega (arith, ints))))
    (λ m n. sym (modulo_is _ _ 1 ((a + b) / 65536) (omega arith) (omega (arith, ints))))
    (λ m n. sym (modulo_is _ _ 1 ((a + (65536 - b)) / 65536) (omega arith) (omega (arith, ints))))
    (λ m n. sym (modulo_is _ _ 1 ((a + (65536 - b)) / 65536) (omega arith) (omega (arith, ints))))

-- the difference to -b or b is the sum or the difference
pub to_bound : (t : Bool) (a b : ℕ) → a < 65536 → b < 65536 → (a + (65536 - cond t (negated b) b)) % 65536 ≡ cond t ((a + b) % 65536) ((a + (65536 - b)) % 65536)
to_bound true a b h k = omega arith
to_bound false a b h k = refl
