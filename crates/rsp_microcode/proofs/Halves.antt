-- Numbers of sixteen bits: the two halves of a number, and what a clamp leaves.
use Rattle.std.proofs.Common.{◌≡◌, ℕ, ◌<◌, ℤ, pos, negsuc, ◌+ℤ◌, ◌*ℤ◌, arith}
use Rattle.std.specs.Prelude.{◌≤ℤ◌}
use Rattle.std.proofs.lemmas.Int.{ints}
use Rattle.std.proofs.lemmas.Bool.Decides.{nat_tests}
use Rattle.rsp_numbers.specs.Numbers.{s16, sixteen_bits, clamp16, floor_div}

pub sixteen_below : (z : ℤ) → sixteen_bits z < 65536
sixteen_below (pos n) = grind (arith, nat_tests, ints)
sixteen_below (negsuc n) = grind (arith, nat_tests, ints)

-- a clamped number that is stored in a lane and read, and a clamp that changes nothing
pub clamp_read : (z : ℤ) → s16 (sixteen_bits (clamp16 z)) ≡ clamp16 z
unfolding clamp16
clamp_read (pos n) = grind (arith, nat_tests, ints)
clamp_read (negsuc n) = grind (arith, nat_tests, ints)

pub clamp_keeps : (z : ℤ) → negsuc 32767 ≤ℤ z → z ≤ℤ pos 32767 → clamp16 z ≡ z
unfolding clamp16
clamp_keeps (pos n) p q = grind (arith, nat_tests, ints, p, q)
clamp_keeps (negsuc n) p q = grind (arith, nat_tests, ints, p, q)

-- 65536 q + r: what a division by 65536 makes of it, and what is left
pub floored : (z q : ℤ) (r : ℕ) → r < 65536 → z ≡ q *ℤ pos 65536 +ℤ pos r → floor_div z 65536 ≡ q
floored (pos n) (pos m) r h e = omega (arith, ints)
floored (pos n) (negsuc m) r h e = absurd (omega (arith, ints))
floored (negsuc n) (pos m) r h e = absurd (omega (arith, ints))
floored (negsuc n) (negsuc m) r h e = omega (arith, ints)

pub rest_of : (z q : ℤ) (r : ℕ) → r < 65536 → z ≡ q *ℤ pos 65536 +ℤ pos r → sixteen_bits z ≡ r
rest_of (pos n) (pos m) r h e = omega (arith, ints)
rest_of (pos n) (negsuc m) r h e = absurd (omega (arith, ints))
rest_of (negsuc n) (pos m) r h e = absurd (omega (arith, ints))
rest_of (negsuc n) (negsuc m) r h e = omega (arith, ints)
