-- Laws of the signed values and of an accumulator's parts.
use Rattle.std.specs.Prelude.{ℕ, ℤ, pos, negsuc, ◌-◌, ◌*◌, ◌^◌, ◌<◌, ◌≡◌, ◌+ℤ◌, ◌≤ℤ◌, ◌<ℤ◌}
use Rattle.rsp_numbers.specs.Numbers.{s16, s32, s48, high, middle, low, join}

-- z and r differ by a multiple of m
abbrev pub DifferByMultiple : ℕ → ℤ → ℤ → Type 0
DifferByMultiple m z r = (i : ℕ) × (j : ℕ) × (z +ℤ pos (i * m) ≡ r +ℤ pos (j * m))

-- r is the signed value of z: the number from -half to half - 1 that differs from z by a multiple of twice half
pub record IsSignedValue (half : ℕ) (z r : ℤ) : Type 0 where
  pub from : negsuc (half - 1) ≤ℤ r
  pub below : r <ℤ pos half
  pub same : DifferByMultiple (2 * half) z r

-- s16, s32 and s48 give the signed values of 16, 32 and 48 bits, and each number has only one
pub record SignedValues : Type 0 where
  pub of16 : (n : ℕ) → n < 2 ^ 16 → IsSignedValue (2 ^ 15) (pos n) (s16 n)
  pub of32 : (n : ℕ) → n < 2 ^ 32 → IsSignedValue (2 ^ 31) (pos n) (s32 n)
  pub of48 : (z : ℤ) → IsSignedValue (2 ^ 47) z (s48 z)
  pub only16 : (n : ℕ) (r : ℤ) → n < 2 ^ 16 → IsSignedValue (2 ^ 15) (pos n) r → s16 n ≡ r
  pub only32 : (n : ℕ) (r : ℤ) → n < 2 ^ 32 → IsSignedValue (2 ^ 31) (pos n) r → s32 n ≡ r
  pub only48 : (z r : ℤ) → IsSignedValue (2 ^ 47) z r → s48 z ≡ r

-- the high, middle and low sixteen bits of a joined number are those that it was joined from
abbrev pub PartsOfJoin : Type 0
PartsOfJoin = (h m l : ℕ) → h < 65536 → m < 65536 → l < 65536 → (high (join h m l) ≡ h) × (middle (join h m l) ≡ m) × (low (join h m l) ≡ l)
