-- Tests of signed values, by tests of the unsigned ones.
use Rattle.std.proofs.Common.{◌≡◌, ℕ, ◌-◌, ◌<◌, ◌≤◌, ℤ, pos, negsuc, Bool, true, false, nat_lt, nat_eq, arith, refl, inl, inr}
use Rattle.std.specs.Prelude.{int_lt}
use Rattle.std.specs.Ordering.{int_eq}
use Rattle.std.proofs.lemmas.Bool.{cases_lt, le-ltb, lt-ltb}
use Rattle.std.proofs.lemmas.Bool.Decides.{nat_tests}
use Rattle.rsp_numbers.specs.Numbers.{s16}
use Rattle.rsp_numbers.proofs.Signed.{s16_small, s16_large}

-- the two signs
pub by_sign : (P : Bool → ℤ → Type 0) (a : ℕ) → a < 65536 → (a < 32768 → P false (pos a)) → (32768 ≤ a → P true (negsuc (65535 - a))) → P (nat_lt 32767 a) (s16 a)
by_sign P a h p q = elim (cases_lt a 32768) [
  | inl n ↦ rw (le-ltb 32767 a (omega arith), s16_small a n) (p n)
  | inr n ↦ rw (lt-ltb 32767 a (omega arith), s16_large a n h) (q n)
]

pub below_zero : (a : ℕ) → a < 65536 → int_lt (s16 a) (pos 0) ≡ nat_lt 32767 a
below_zero a h = by_sign (λ t z. int_lt z (pos 0) ≡ t) a h (λ n. grind (arith, nat_tests)) (λ n. refl)

pub is_zero : (a : ℕ) → a < 65536 → int_eq (s16 a) (pos 0) ≡ nat_eq a 0
is_zero a h = by_sign (λ t z. int_eq z (pos 0) ≡ nat_eq a 0) a h (λ n. grind (arith, nat_tests)) (λ n. grind (arith, nat_tests))

pub is_least : (a : ℕ) → a < 65536 → int_eq (s16 a) (negsuc 32767) ≡ nat_eq a 32768
is_least a h = by_sign (λ t z. int_eq z (negsuc 32767) ≡ nat_eq a 32768) a h (λ n. grind (arith, nat_tests)) (λ n. grind (arith, nat_tests))

pub is_equal : (a b : ℕ) → a < 65536 → b < 65536 → int_eq (s16 a) (s16 b) ≡ nat_eq a b
is_equal a b h k = by_sign (λ t z. int_eq z (s16 b) ≡ nat_eq a b) a h
    (λ m. by_sign (λ t z. int_eq (pos a) z ≡ nat_eq a b) b k (λ n. grind (arith, nat_tests)) (λ n. grind (arith, nat_tests)))
    (λ m. by_sign (λ t z. int_eq (negsuc (65535 - a)) z ≡ nat_eq a b) b k (λ n. grind (arith, nat_tests)) (λ n. grind (arith, nat_tests)))
