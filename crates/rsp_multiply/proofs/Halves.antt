-- The halves of a product of 32 bits, and the product by its halves.
use Rattle.std.proofs.Common.{◌≡◌, ℕ, suc, ◌+◌, ◌-◌, ◌*◌, ◌/◌, ◌%◌, ◌^◌, ◌<◌, ℤ, pos, negsuc, ◌+ℤ◌, ◌*ℤ◌, cond, nat_lt, arith, ap, ◌∙◌}
use Rattle.std.specs.Prelude.{◌≤ℤ◌, ◌<ℤ◌}
use Rattle.std.proofs.lemmas.Int.{ints}
use Rattle.std.proofs.lemmas.Bool.{lt-ltb, le-ltb}
use Rattle.rsp_numbers.specs.Numbers.{sixteen_bits, upper_bits, join}
use Rattle.rsp_numbers.proofs.Wrap.{s48_is}
use Rattle.rsp_numbers.proofs.Join.{join_small, join_large}

pub high_half : (p k m : ℕ) (z : ℤ) → z +ℤ pos (65536 * k) ≡ pos (p + m * 2 ^ 32) → k < 131072 → (p / 65536 + (131072 - k)) % 65536 ≡ upper_bits z
high_half p k m (pos n) e h = let f : n + 65536 * k ≡ p + m * 2 ^ 32 = omega (arith, ints) in omega arith
high_half p k m (negsuc n) e h = let f : 65536 * k ≡ p + m * 2 ^ 32 + suc n = omega (arith, ints) in omega arith

pub low_half : (p k m : ℕ) (z : ℤ) → z +ℤ pos (65536 * k) ≡ pos (p + m * 2 ^ 32) → p % 65536 ≡ sixteen_bits z
low_half p k m (pos n) e = let f : n + 65536 * k ≡ p + m * 2 ^ 32 = omega (arith, ints) in omega arith
low_half p k m (negsuc n) e = let f : 65536 * k ≡ p + m * 2 ^ 32 + suc n = omega (arith, ints) in omega arith

-- a number of 32 bits from its halves, with its sign above them
pub halves_joined : (z : ℤ) → negsuc (2 ^ 31 - 1) ≤ℤ z → z <ℤ pos (2 ^ 31)
    → join (cond (nat_lt 32767 (upper_bits z)) 65535 0) (upper_bits z) (sixteen_bits z) ≡ z
halves_joined (pos n) low high =
    let b : n < 2 ^ 31 = omega (arith, ints) in
    rw (le-ltb 32767 (n / 65536 % 65536) (omega arith)) (join_small 0 _ _ (omega arith) (omega arith) (omega arith) ∙ ap pos (omega arith))
halves_joined (negsuc n) low high =
    let b : n < 2 ^ 31 = omega (arith, ints) in
    rw (lt-ltb 32767 (65535 - n / 65536 % 65536) (omega arith)) (join_large 65535 _ _ (omega arith) (omega arith) (omega arith) (omega arith) ∙ ap negsuc (omega arith))

-- the same number times 65536
pub shifted : (z : ℤ) → negsuc (2 ^ 31 - 1) ≤ℤ z → z <ℤ pos (2 ^ 31) → join (upper_bits z) (sixteen_bits z) 0 ≡ z *ℤ pos 65536
unfolding join
shifted (pos n) low high =
    let b : n < 2 ^ 31 = omega (arith, ints) in
    s48_is _ _ 0 0 (ap pos (omega arith)) (omega (arith, ints)) (omega (arith, ints))
shifted (negsuc n) low high =
    let b : n < 2 ^ 31 = omega (arith, ints) in
    s48_is _ _ 0 1 (omega (arith, ints)) (omega (arith, ints)) (omega (arith, ints))

-- the halves of a mixed product
pub high_mixed : (p k : ℕ) (z : ℤ) → z +ℤ pos (65536 * k) ≡ pos p → k < 65536 → (p / 65536 + (65536 - k)) % 65536 ≡ upper_bits z
high_mixed p k z e f = let h = high_half p k 0 z (e ∙ ap pos (omega arith)) (omega arith) in omega (arith, h)

pub low_mixed : (p k : ℕ) (z : ℤ) → z +ℤ pos (65536 * k) ≡ pos p → p % 65536 ≡ sixteen_bits z
low_mixed p k z e = low_half p k 0 z (e ∙ ap pos (omega arith))
