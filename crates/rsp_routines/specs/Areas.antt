-- Bytes in DMEM that a routine reads or fills sixteen at a time. Their number need not be a multiple of 16.
use Rattle.std.specs.Prelude.{ℕ, ◌≡◌, ◌⊎◌, ◌+◌, ◌-◌, ◌/◌, ◌%◌, ◌<◌, ◌≤◌}

-- n bytes inside DMEM from a multiple of 16 on, but not all of DMEM
pub record IsArea (a n : ℕ) : Type 0 where
  pub aligned : a % 16 ≡ 0
  pub begins : a < 4096
  pub ends : a + n ≤ 4096
  pub short : n < 4096

-- Filling bytes from a on overwrites none of the n bytes from b on that are still to be read: it begins at b, or before b, or after the
-- last of them.
abbrev pub SparesArea : ℕ → ℕ → ℕ → Type 0
SparesArea a b n = (a ≤ b) ⊎ (b + n ≤ a)

-- the vectors of sixteen bytes that a loop stores for n bytes: one at least
abbrev pub vectors_for : ℕ → ℕ
vectors_for n = (n - 1) / 16 + 1
