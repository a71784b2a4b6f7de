-- What `s48` is known by: its range, and that it differs from its argument by a multiple of 2^48.
use Rattle.std.proofs.Common.{◌≡◌, ℕ, ◌+◌, ◌-◌, ◌*◌, ◌/◌, ◌^◌, ◌<◌, ℤ, pos, negsuc, ◌+ℤ◌, arith, refl}
use Rattle.std.specs.Prelude.{◌≤ℤ◌, ◌<ℤ◌}
use Rattle.std.proofs.lemmas.Int.{ints}
use Rattle.std.specs.Int.{int_rem_euclid}
use Rattle.rsp_numbers.specs.Numbers.{s48, modulo}

-- z and its remainder differ by a multiple of m, as a sum on either side
modulo48 : (z : ℤ) → (i : ℕ) × (j : ℕ) × (z +ℤ pos (i * 2 ^ 48) ≡ pos (modulo z (2 ^ 48) + j * 2 ^ 48)) × (modulo z (2 ^ 48) < 2 ^ 48)
modulo48 (pos a) = (0, a / 2 ^ 48, omega (arith, ints), omega arith)
modulo48 (negsuc a) = (a / 2 ^ 48 + 1, 0, omega (arith, ints), omega arith)

pub s48_differs : (z : ℤ) → (i : ℕ) × (j : ℕ) × (z +ℤ pos (i * 2 ^ 48) ≡ s48 z +ℤ pos (j * 2 ^ 48)) × (negsuc (2 ^ 47 - 1) ≤ℤ s48 z) × (s48 z <ℤ pos (2 ^ 47))
unfolding s48
s48_differs z =
    let d = modulo48 (z +ℤ pos (2 ^ 47)) in
    (d.0, d.1, omega (arith, ints, d.2, d.3), omega (arith, ints, d.3), omega (arith, ints, d.3))

pub s48_is : (z r : ℤ) (i j : ℕ) → z +ℤ pos (i * 2 ^ 48) ≡ r +ℤ pos (j * 2 ^ 48) → negsuc (2 ^ 47 - 1) ≤ℤ r → r <ℤ pos (2 ^ 47) → s48 z ≡ r
s48_is z r i j e low high =
    let d = s48_differs z in
    omega (arith, ints, d.2, d.3, d.4)

pub s48_same : (a b : ℤ) (i j : ℕ) → a +ℤ pos (i * 2 ^ 48) ≡ b +ℤ pos (j * 2 ^ 48) → s48 a ≡ s48 b
s48_same a b i j e =
    let d = s48_differs b in
    s48_is a (s48 b) (i + d.0) (j + d.1) (omega (arith, ints, d.2)) d.3 d.4

-- `rem_euclid` as a natural
pub rem_is_modulo : (z : ℤ) (m : ℕ) → int_rem_euclid z (pos m) ≡ pos (modulo z m)
rem_is_modulo (pos a) m = refl
rem_is_modulo (negsuc a) m = refl
