-- The signed values of sixteen and of 32 bits, by the sign.
use Rattle.std.proofs.Common.{◌≡◌, ℕ, ◌-◌, ◌^◌, ◌<◌, ◌≤◌, pos, negsuc, arith, ap}
use Rattle.std.proofs.lemmas.Int.{ints}
use Rattle.std.proofs.lemmas.Bool.{le-ltb}
use Rattle.rsp_numbers.specs.Numbers.{s16, s32}

pub s16_small : (n : ℕ) → n < 2 ^ 15 → s16 n ≡ pos n
s16_small n h = omega (arith, ints)

pub s16_large : (n : ℕ) → 2 ^ 15 ≤ n → n < 2 ^ 16 → s16 n ≡ negsuc (2 ^ 16 - 1 - n)
s16_large n h k = rw (le-ltb n (2 ^ 15) h) (ap negsuc (omega arith))

pub s32_small : (n : ℕ) → n < 2 ^ 31 → s32 n ≡ pos n
s32_small n h = omega (arith, ints)

pub s32_large : (n : ℕ) → 2 ^ 31 ≤ n → n < 2 ^ 32 → s32 n ≡ negsuc (2 ^ 32 - 1 - n)
s32_large n h k = rw (le-ltb n (2 ^ 31) h) (ap negsuc (omega arith))
