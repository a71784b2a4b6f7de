-- Signed values of sixteen bits, by numbers that are 32768 too great.
use Rattle.std.proofs.Common.{◌≡◌, ℕ, ◌+◌, ◌-◌, ◌%◌, ◌<◌, ◌≤◌, pos, negsuc, nat_lt, arith, ap, inl, inr}
use Rattle.std.specs.Prelude.{int_lt}
use Rattle.std.specs.Int.{cast_signed, w16}
use Rattle.std.proofs.lemmas.Int.{ints}
use Rattle.std.proofs.lemmas.Bool.{cases_lt, le-ltb}
use Rattle.std.proofs.lemmas.Bool.Decides.{nat_tests}

small : (a : ℕ) → a < 32768 → cast_signed w16 a ≡ pos a
small a h = omega (arith, ints)

large : (a : ℕ) → 32768 ≤ a → cast_signed w16 a ≡ negsuc (65535 - a)
large a h = rw (le-ltb a 32768 h) (ap negsuc (omega arith))

pub below_signed : (a b : ℕ) → a < 65536 → b < 65536
    → nat_lt ((a + 32768) % 65536) ((b + 32768) % 65536) ≡ int_lt (cast_signed w16 a) (cast_signed w16 b)
below_signed a b h k = elim (cases_lt a 32768) [
  | inl m ↦ elim (cases_lt b 32768) [
    | inl n ↦ rw (small a m, small b n) (grind (arith, nat_tests))
    | inr n ↦ rw (small a m, large b n) (grind (arith, nat_tests))
  ]
  | inr m ↦ elim (cases_lt b 32768) [
    | inl n ↦ rw (large a m, small b n) (grind (arith, nat_tests))
    | inr n ↦ rw (large a m, large b n) (grind (arith, nat_tests))
  ]
]
