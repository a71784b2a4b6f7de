-- How near the table's reciprocal is: the number times it is near 2^31.
use Rattle.std.proofs.Common.{◌≡◌, ℕ, suc, ◌+◌, ◌-◌, ◌*◌, ◌/◌, ◌%◌, ◌^◌, ◌<◌, ◌≤◌, Bool, true, ◌&&◌, nat_lt, nat_le, pow_pos, inl, inr, refl, ap, sym, ◌∙◌, arith}
use Rattle.std.proofs.lemmas.Bool.{agree_below_at, and_parts, leb-true, ltb-true, cases_lt}
use Rattle.std.proofs.lemmas.Nat.{leading_top, mul-le, pow-add}
use Rattle.std.proofs.Math.Nat.{mul-le-mul_left}
use Rattle.rsp_divide.specs.Entries.{reciprocal_entry}
use Rattle.rsp_divide.specs.Quotients.{reciprocal_bits, zeros}

-- x times its estimate q: near 2^31, and below 2^32 also if one is added to both
pub record IsEstimate (x q : ℕ) : Type 0 where
  pub low : 2 ^ 31 ≤ x * q + x + 2 ^ 15
  pub high : x * q ≤ 2 ^ 31 + 2 ^ 22
  pub inside : (x + 1) * (q + 1) ≤ 2 ^ 32

-- entry n with its highest bit, times the ends of the interval that it is for
abbrev is_close : ℕ → ℕ → Bool
is_close n m = nat_lt m (2 ^ 17) && (nat_le (2 ^ 26) (m * (512 + n) + 1023) && nat_le (m * (513 + n)) (2 ^ 26 + 2 ^ 17))

record IsClose (n m : ℕ) : Type 0 where
  small : m < 2 ^ 17
  low : 2 ^ 26 ≤ m * (512 + n) + 1023
  high : m * (513 + n) ≤ 2 ^ 26 + 2 ^ 17

-- each entry, tested
entry_close : (n : ℕ) → n < 512 → IsClose n (65536 + reciprocal_entry n)
entry_close n h =
    let all = and_parts _ _ (agree_below_at (λ i. is_close i (65536 + reciprocal_entry i)) (λ _. true) 512 n refl h) in
    let both = and_parts _ _ all.1 in
    record { small = ltb-true _ _ all.0; low = leb-true _ _ both.0; high = leb-true _ _ both.1 }

-- x k begins with the nine bits n and a one before them, and q is the entry m, shifted right
estimated : (x k p n m q : ℕ) → k * p ≡ 2 ^ 31 → (512 + n) * 2 ^ 22 ≤ x * k → x * k ≤ (513 + n) * 2 ^ 22 → x < 2 * p → IsClose n m
    → q * p ≤ m * 2 ^ 14 → m * 2 ^ 14 ≤ q * p + p → IsEstimate x q
estimated x k p n m q e from to short close low high =
    let whole : x * q * (k * p) ≡ x * q * 2 ^ 31 = ap (λ y. x * q * y) e in
    let part : x * (k * p) ≡ x * 2 ^ 31 = ap (λ y. x * y) e in
    let a : x * k * (q * p) ≤ x * k * (m * 2 ^ 14) = mul-le-mul_left (x * k) low in
    let b : x * k * (m * 2 ^ 14) ≤ x * k * (q * p + p) = mul-le-mul_left (x * k) high in
    let c : m * (x * k) ≤ m * ((513 + n) * 2 ^ 22) = mul-le-mul_left m to in
    let d : m * ((512 + n) * 2 ^ 22) ≤ m * (x * k) = mul-le-mul_left m from in
    record { low = omega (arith, close.low); high = omega (arith, close.high); inside = inside }
  where
    below : q < k
    below = elim (cases_lt q k) [
      | inl h ↦ h
      | inr h ↦ let f : k * p ≤ q * p = mul-le k p q p h (omega arith) in absurd (omega (arith, close.small))
    ]

    inside : (x + 1) * (q + 1) ≤ 2 ^ 32
    inside = let f : (x + 1) * (q + 1) ≤ 2 * p * k = mul-le (x + 1) (q + 1) (2 * p) k (omega arith) (omega (arith, below)) in omega arith

-- k shifts x up to its 32 bits, and p is the power of two below it
shifted : (x k p : ℕ) → k * p ≡ 2 ^ 31 → 0 < k → 0 < p → p ≤ x → x < 2 * p → IsEstimate x ((65536 + reciprocal_entry (x * k / 2 ^ 22 % 512)) * 2 ^ 14 / p)
shifted x k p e i h low high =
    let a : k * p ≤ k * x = mul-le-mul_left k low in
    let b : k * (x + 1) ≤ k * (2 * p) = mul-le-mul_left k (omega arith) in
    let n = x * k / 2 ^ 22 % 512 in
    let m = 65536 + reciprocal_entry n in
    let f : (512 + n) * 2 ^ 22 ≤ x * k = omega arith in
    let g : x * k ≤ (513 + n) * 2 ^ 22 = omega arith in
    let q = m * 2 ^ 14 / p in
    let u : q * p ≤ m * 2 ^ 14 = omega arith in
    let v : m * 2 ^ 14 ≤ q * p + p = omega arith in
    estimated x k p n m q e f g high (entry_close n (omega arith)) u v

pub reciprocal_estimated : (x : ℕ) → 0 < x → x < 2 ^ 31 → IsEstimate x (reciprocal_bits x)
unfolding reciprocal_bits
reciprocal_estimated x h k =
    let top = leading_top 32 x h (omega arith) in
    let j = top.0 in
    let z = zeros x in
    let s : z + suc j ≡ 32 = top.1 in
    let power : 31 - z ≡ j = omega arith in
    let e : 2 ^ z * 2 ^ j ≡ 2 ^ 31 = let i : z + j ≡ 31 = omega arith in sym (pow-add 2 z j) ∙ ap (λ i. 2 ^ i) i in
    let double : 2 ^ suc j ≡ 2 * 2 ^ j = omega arith in
    rw power (shifted x (2 ^ z) (2 ^ j) e (pow_pos z) (pow_pos j) top.2 (rw double at top.3))
