-- Signed products, by the product of the lanes as unsigned numbers.
use Rattle.std.proofs.Common.{◌≡◌, ℕ, suc, ◌+◌, ◌-◌, ◌*◌, ◌^◌, ◌<◌, ◌≤◌, ℤ, pos, negsuc, ◌+ℤ◌, ◌*ℤ◌, cond, nat_lt, arith, ap, inl, inr}
use Rattle.std.specs.Prelude.{◌≤ℤ◌, ◌<ℤ◌}
use Rattle.std.proofs.lemmas.Int.{ints}
use Rattle.std.proofs.lemmas.Bool.{cases_lt, lt-ltb, le-ltb}
use Rattle.std.proofs.Math.Nat.{mul-le-mul}
use Rattle.rsp_numbers.specs.Numbers.{s16}

pub s16_small : (a : ℕ) → a < 32768 → s16 a ≡ pos a
s16_small a h = omega (arith, ints)

pub s16_large : (a x : ℕ) → a + suc x ≡ 65536 → x < 32768 → s16 a ≡ negsuc x
s16_large a x e h = rw (le-ltb a 32768 (omega arith)) (ap negsuc (omega arith))

-- the two signs of a lane
pub by_s16 : (P : ℕ → ℤ → Type 0) (a b : ℕ) → a < 65536
    → (a < 32768 → P 0 (pos a)) → ((x : ℕ) → a + suc x ≡ 65536 → x < 32768 → P b (negsuc x)) → P (cond (nat_lt 32767 a) b 0) (s16 a)
by_s16 P a b h p q =
    elim (cases_lt a 32768) [
      | inl n ↦ rw (le-ltb 32767 a (omega arith), s16_small a n) (p n)
      | inr n ↦
          let e : a + suc (65535 - a) ≡ 65536 = omega arith in
          rw (lt-ltb 32767 a (omega arith), s16_large a (65535 - a) e (omega arith)) (q (65535 - a) e (omega arith))
    ]

-- a signed number times an unsigned one: k is what the unsigned product has too many
pub record Mixed (a b k : ℕ) (z : ℤ) : Type 0 where
  pub relation : z +ℤ pos (65536 * k) ≡ pos (a * b)
  pub low : negsuc (2 ^ 31 - 1) ≤ℤ z
  pub high : z <ℤ pos (2 ^ 31)
  pub small : k < 65536

pub mixed : (a b : ℕ) → a < 65536 → b < 65536 → Mixed a b (cond (nat_lt 32767 a) b 0) (s16 a *ℤ pos b)
mixed a b h k = by_s16 (λ k z. Mixed a b k (z *ℤ pos b)) a b h
    (λ n. let p : a * b ≤ 32767 * 65535 = let u : a ≤ 32767 = omega arith in let v : b ≤ 65535 = omega arith in mul-le-mul u v in record { relation = ap pos (omega arith); low = omega (arith, ints); high = omega (arith, ints); small = omega arith })
    (λ x e n.
    let q : suc x * b ≤ 32768 * 65535 = let u : suc x ≤ 32768 = omega arith in let v : b ≤ 65535 = omega arith in mul-le-mul u v in
    let r = ap (λ m. m * b) e in
    record { relation = omega (arith, ints, r); low = omega (arith, ints); high = omega (arith, ints); small = k })

-- two signed numbers: k is what the unsigned product has too many, and m is 1 if both are negative
pub record Signed (a b k j m : ℕ) (z : ℤ) : Type 0 where
  pub relation : z +ℤ pos (65536 * (k + j)) ≡ pos (a * b + m * 2 ^ 32)
  pub low : negsuc (2 ^ 30 - 1) ≤ℤ z
  pub high : z ≤ℤ pos (2 ^ 30)
  pub wide_low : negsuc (2 ^ 31 - 1) ≤ℤ z
  pub wide_high : z <ℤ pos (2 ^ 31)
  pub first : k < 65536
  pub second : j < 65536

-- (m - a) (m - b), multiplied out
both_negative : (a b x y m : ℕ) → a + x ≡ m → b + y ≡ m → x * y + m * (a + b) ≡ a * b + m * m
both_negative a b x y m e f =
    let g : x * y + ((b + y) * a + (a + x) * b) ≡ a * b + (a + x) * (b + y) = omega arith in
    let g' : x * y + (m * a + m * b) ≡ a * b + m * m = rw (e, f) at g in
    omega (arith, g')

pub signed : (a b : ℕ) → a < 65536 → b < 65536 → (m : ℕ) × Signed a b (cond (nat_lt 32767 a) b 0) (cond (nat_lt 32767 b) a 0) m (s16 a *ℤ s16 b)
signed a b h k = by_s16 (λ i z. (m : ℕ) × Signed a b i (cond (nat_lt 32767 b) a 0) m (z *ℤ s16 b)) a b h
    (λ n. by_s16 (λ j z. (m : ℕ) × Signed a b 0 j m (pos a *ℤ z)) b a k
    (λ n'. let p : a * b ≤ 32767 * 32767 = let u : a ≤ 32767 = omega arith in let v : b ≤ 32767 = omega arith in mul-le-mul u v in (0, record { relation = omega (arith, ints); low = omega (arith, ints); high = omega (arith, ints); wide_low = omega (arith, ints); wide_high = omega (arith, ints); first = omega arith; second = omega arith }))
    (λ y e n'.
    let q : a * suc y ≤ 32767 * 32768 = let u : a ≤ 32767 = omega arith in let v : suc y ≤ 32768 = omega arith in mul-le-mul u v in
    let r = ap (λ m. a * m) e in
    (0, record { relation = omega (arith, ints, r); low = omega (arith, ints); high = omega (arith, ints); wide_low = omega (arith, ints); wide_high = omega (arith, ints); first = omega arith; second = h })))
    (λ x e n. by_s16 (λ j z. (m : ℕ) × Signed a b b j m (negsuc x *ℤ z)) b a k
    (λ n'.
    let q : suc x * b ≤ 32768 * 32767 = let u : suc x ≤ 32768 = omega arith in let v : b ≤ 32767 = omega arith in mul-le-mul u v in
    let r = ap (λ m. m * b) e in
    (0, record { relation = omega (arith, ints, r); low = omega (arith, ints); high = omega (arith, ints); wide_low = omega (arith, ints); wide_high = omega (arith, ints); first = k; second = omega arith }))
    (λ y e' n'.
    let q : suc x * suc y ≤ 32768 * 32768 = let u : suc x ≤ 32768 = omega arith in let v : suc y ≤ 32768 = omega arith in mul-le-mul u v in
    let r = both_negative a b (suc x) (suc y) 65536 e e' in
    (1, record { relation = omega (arith, ints, r); low = omega (arith, ints); high = omega (arith, ints); wide_low = omega (arith, ints); wide_high = omega (arith, ints); first = k; second = h })))
