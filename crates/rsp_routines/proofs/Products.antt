-- The range of a product of two signed numbers of sixteen bits.
use Rattle.std.proofs.Common.{ℕ, ◌-◌, ◌^◌, ◌<◌, ℤ, pos, negsuc, ◌*ℤ◌}
use Rattle.std.specs.Prelude.{◌≤ℤ◌}
use Rattle.rsp_numbers.specs.Numbers.{s16}
use Rattle.rsp_multiply.proofs.Signs.{signed}

pub record IsBelow (z : ℤ) : Type 0 where
  pub low : negsuc (2 ^ 30 - 1) ≤ℤ z
  pub high : z ≤ℤ pos (2 ^ 30)

pub below : (a b : ℕ) → a < 65536 → b < 65536 → IsBelow (s16 a *ℤ s16 b)
below a b h k = let p = (signed a b h k).1 in record { low = p.low; high = p.high }
