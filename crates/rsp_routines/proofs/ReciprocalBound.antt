-- How near the reciprocal is after a step of Newton's method.
use Rattle.std.proofs.Common.{◌≡◌, ℕ, zero, suc, ◌+◌, ◌-◌, ◌*◌, ◌/◌, ◌^◌, ◌<◌, ◌≤◌, ◌⊎◌, ℤ, pos, negsuc, ◌*ℤ◌, inl, inr, refl, ap, ◌∙◌, arith}
use Rattle.std.specs.Prelude.{◌-ℤ◌, ◌≤ℤ◌, ◌≢◌, neg_ℤ, unsigned_abs, min}
use Rattle.std.proofs.lemmas.Int.{ints, clamps}
use Rattle.std.proofs.lemmas.Bool.{cases_lt, cases_order}
use Rattle.std.proofs.lemmas.Bool.Decides.{nat_tests}
use Rattle.std.proofs.Math.Nat.{mul-le-mul_left}
use Rattle.std.proofs.lemmas.Nat.{mul-le}
use Rattle.rsp_numbers.specs.Numbers.{floor_div}
use Rattle.rsp_divide.specs.Quotients.{reciprocal_of, reciprocal_bits}
use Rattle.rsp_microcode.specs.Fixed.{limited, fixed_product}
use Rattle.rsp_routines.specs.Reciprocal.{improved, IsHalfReciprocal}
use Rattle.rsp_routines.proofs.Estimates.{IsEstimate, reciprocal_estimated}

-- twice a product is at most the sum of the squares
apart : (a b k : ℕ) → b ≡ a + k → 2 * (a * b) ≤ a * a + b * b
apart a b k e = rw e (omega arith)

pub doubled : (c d : ℕ) → 2 * (c * d) ≤ c * c + d * d
doubled c d = elim (cases_lt c d) [
  | inl h ↦ apart c d (d - c) (omega arith)
  | inr h ↦ let f = apart d c (c - d) (omega arith) in omega arith
]

-- r is 2^17 less twice the high part of u
record IsRest (u p r : ℕ) : Type 0 where
  low : p * 65536 ≤ u
  high : u ≤ p * 65536 + 65535
  rest : r + 2 * p ≡ 131072

low_rest : (u p r : ℕ) → IsRest u p r → 2 ^ 33 * u ≤ 65536 * (u * r) + 2 * (u * u)
low_rest u p r is =
    let e : u * (r + 2 * p) ≡ u * 131072 = ap (λ n. u * n) is.rest in
    let a : u * (p * 65536) ≤ u * u = mul-le-mul_left u is.low in
    omega arith

high_rest : (u p r : ℕ) → IsRest u p r → 65536 * (u * r) + 2 * (u * u) ≤ 2 ^ 33 * u + 131070 * u
high_rest u p r is =
    let e : u * (r + 2 * p) ≡ u * 131072 = ap (λ n. u * n) is.rest in
    let b : u * u ≤ u * (p * 65536 + 65535) = mul-le-mul_left u is.high in
    omega arith

-- u is near 2^31: what it differs by, and the bounds of u r
record IsNear (u r : ℕ) : Type 0 where
  difference : ℕ
  side : (u ≡ 2 ^ 31 + difference) ⊎ (u + difference ≡ 2 ^ 31)
  low : 2 ^ 63 ≤ 65536 * (u * r) + 2 * (difference * difference)
  high : 65536 * (u * r) + 2 ^ 31 ≤ 2 ^ 63 + 2 ^ 48

above : (u p r d : ℕ) → IsRest u p r → u ≡ 2 ^ 31 + d → IsNear u r
above u p r d is e =
    let f : u * u ≡ (2 ^ 31 + d) * (2 ^ 31 + d) = ap (λ n. n * n) e in
    let g = doubled 32768 d in
    let l = low_rest u p r is in
    let h = high_rest u p r is in
    record { difference = d; side = inl e; low = omega arith; high = omega arith }

below : (u p r d : ℕ) → IsRest u p r → u + d ≡ 2 ^ 31 → IsNear u r
below u p r d is e =
    let f : (u + d) * u ≡ 2 ^ 31 * u = ap (λ n. n * u) e in
    let g : (u + d) * d ≡ 2 ^ 31 * d = ap (λ n. n * d) e in
    let l = low_rest u p r is in
    let h = high_rest u p r is in
    record { difference = d; side = inr e; low = omega arith; high = omega arith }

near : (u p r : ℕ) → IsRest u p r → IsNear u r
near u p r is = elim (cases_lt u (2 ^ 31)) [
  | inl h ↦ below u p r (2 ^ 31 - u) is (omega arith)
  | inr h ↦ above u p r (u - 2 ^ 31) is (omega arith)
]

-- the square of a difference that is below c + x
square_below : (x c d : ℕ) → x ≤ 2 ^ 31 → d ≤ c + x → d * d ≤ c * c + 2 * (c * x) + 2 ^ 31 * x
square_below x c d h k =
    let e : d * d ≤ (c + x) * (c + x) = mul-le d d (c + x) (c + x) k k in
    let f : x * x ≤ 2 ^ 31 * x = mul-le x x (2 ^ 31) x h (omega arith) in
    omega arith

-- the result a, times the number x, is near 2^31
record IsClose (x a : ℕ) : Type 0 where
  low : 2 ^ 31 ≤ a * x + 2 * x + 65536
  high : a * x ≤ 2 ^ 31 + 65536 + x

-- of a positive number: a is the product q r, rounded down
positive : (x q p r a : ℕ) → x ≤ 2 ^ 31 → IsEstimate x q → IsRest (x * q) p r → a * 65536 ≤ q * r → q * r ≤ a * 65536 + 65535 → IsClose x a
positive x q p r a small is rest low high =
    let n = near (x * q) p r rest in
    let l : x * (a * 65536) ≤ x * (q * r) = mul-le-mul_left x low in
    let h : x * (q * r) ≤ x * (a * 65536 + 65535) = mul-le-mul_left x high in
    record { low = lower n h; high = omega (arith, n.high) }
  where
    lower : (n : IsNear (x * q) r) → x * (q * r) ≤ x * (a * 65536 + 65535) → 2 ^ 31 ≤ a * x + 2 * x + 65536
    lower n h = elim n.side [
      | inl e ↦
          let s : n.difference * n.difference ≤ 2 ^ 22 * 2 ^ 22 = let t : n.difference ≤ 2 ^ 22 = omega (arith, is.high) in mul-le _ _ (2 ^ 22) (2 ^ 22) t t in
          omega (arith, n.low)
      | inr e ↦
          let s = square_below x (2 ^ 15) n.difference small (omega (arith, is.low)) in
          omega (arith, n.low)
    ]

-- of a negative one, by its size x: a is the product q r, rounded up
record IsBelow (x q : ℕ) : Type 0 where
  low : 2 ^ 31 ≤ x * q + 2 ^ 15
  high : x * q ≤ 2 ^ 31 + 2 ^ 22 + 2 ^ 17 + x

negative : (x q p r a : ℕ) → x ≤ 2 ^ 31 → IsBelow x q → IsRest (x * q) p r → q * r ≤ a * 65536 → a * 65536 ≤ q * r + 65535 → IsClose x a
negative x q p r a small is rest low high =
    let n = near (x * q) p r rest in
    let l : x * (q * r) ≤ x * (a * 65536) = mul-le-mul_left x low in
    let h : x * (a * 65536) ≤ x * (q * r + 65535) = mul-le-mul_left x high in
    record { low = lower n l; high = omega (arith, n.high) }
  where
    lower : (n : IsNear (x * q) r) → x * (q * r) ≤ x * (a * 65536) → 2 ^ 31 ≤ a * x + 2 * x + 65536
    lower n l = elim n.side [
      | inl e ↦
          let s = square_below x (2 ^ 22 + 2 ^ 17) n.difference small (omega (arith, is.high)) in
          omega (arith, n.low)
      | inr e ↦
          let s : n.difference * n.difference ≤ 2 ^ 15 * 2 ^ 15 = let t : n.difference ≤ 2 ^ 15 = omega (arith, is.low) in mul-le _ _ (2 ^ 15) (2 ^ 15) t t in
          omega (arith, n.low)
    ]

-- that holds of a clamped result too
clamped_close : (x a c : ℕ) → 0 < x → 2147483647 ≤ c → IsClose x a → IsClose x (min a c)
clamped_close x a c h k is = elim (cases_lt c a) [
  | inl more ↦
      let e : min a c ≡ c = omega arith in
      let f : c * x ≤ a * x = mul-le c x a x (omega arith) (omega arith) in
      let g : 2147483647 * x ≤ c * x = mul-le 2147483647 x c x k (omega arith) in
      rw e (record { low = omega arith; high = omega (arith, is.high) })
  | inr less ↦ let e : min a c ≡ a = omega arith in rw e is
]

limited_pos : (n : ℕ) → limited (pos n) ≡ pos (min n 2147483647)
limited_pos n = omega (arith, ints, clamps)

limited_neg : (n : ℕ) → limited (neg_ℤ (pos n)) ≡ neg_ℤ (pos (min n 2147483648))
limited_neg n = omega (arith, ints, clamps)

-- two less twice the product, rounded down
abbrev rest_of : ℕ → ℕ
rest_of u = 131072 - 2 * (u / 65536)

rest_is : (u : ℕ) → u ≤ 2 ^ 32 → IsRest u (u / 65536) (rest_of u)
rest_is u h = record { low = omega arith; high = omega arith; rest = omega arith }

rest_limited : (u : ℕ) → u ≤ 2 ^ 32 → limited (pos 131072 -ℤ pos 2 *ℤ limited (pos (u / 65536))) ≡ pos (rest_of u)
rest_limited u h = omega (arith, ints, clamps)

-- a quotient of a number that isn't positive, rounded down
floor_neg : (n a : ℕ) → n ≤ a * 65536 → a * 65536 ≤ n + 65535 → floor_div (neg_ℤ (pos n)) 65536 ≡ neg_ℤ (pos a)
floor_neg zero a h k = let e : a ≡ 0 = omega arith in rw e refl
floor_neg (suc n) a h k = let e : a ≡ suc (n / 65536) = omega arith in rw e refl

improved_pos : (x q : ℕ) → x * q ≤ 2 ^ 32 → improved (pos x) (pos q) ≡ pos (min (q * rest_of (x * q) / 65536) 2147483647)
improved_pos x q h = ap (fixed_product (pos q)) (rest_limited (x * q) h) ∙ limited_pos _

improved_neg : (a b r n : ℕ) → suc a * suc b ≤ 2 ^ 32 → rest_of (suc a * suc b) ≡ r → suc b * r ≤ n * 65536 → n * 65536 ≤ suc b * r + 65535
    → improved (negsuc a) (negsuc b) ≡ neg_ℤ (pos (min n 2147483648))
improved_neg a b r n h e low high = ap (fixed_product (negsuc b)) (rest_limited (suc a * suc b) h ∙ ap pos e) ∙ ap limited (floor_neg (suc b * r) n low high) ∙ limited_neg n

from_above : (n : ℕ) → 2147483648 ≤ n → pos n -ℤ pos 2147483648 ≡ pos (n - 2147483648)
from_above n h = omega (arith, ints)

from_below : (n : ℕ) → n < 2147483648 → pos n -ℤ pos 2147483648 ≡ negsuc (2147483647 - n)
from_below n h = omega (arith, ints)

difference : (n m : ℕ) → n ≤ 2147483648 + m → 2147483648 ≤ n + m → unsigned_abs (pos n -ℤ pos 2147483648) ≤ m
difference n m h k = elim (cases_lt n 2147483648) [
  | inl l ↦ rw (from_below n l) (omega arith)
  | inr g ↦ rw (from_above n g) (omega arith)
]

size_times : (a n : ℕ) → neg_ℤ (pos n) *ℤ negsuc a ≡ pos (n * suc a)
size_times a zero = let e : 0 * suc a ≡ 0 = omega arith in rw e refl
size_times a (suc n) = refl

within_pos : (x a : ℕ) → IsClose x a → IsHalfReciprocal (pos x) (pos a)
within_pos x a is = difference (a * x) (65536 + 2 * x) (omega (arith, is.high)) (omega (arith, is.low))

within_neg : (x a : ℕ) → IsClose (suc x) a → IsHalfReciprocal (negsuc x) (neg_ℤ (pos a))
within_neg x a is = rw (size_times x a) (difference (a * suc x) (65536 + 2 * suc x) (omega (arith, is.high)) (omega (arith, is.low)))

-- a positive number
pub near_pos : (x : ℕ) → 0 < x → x < 2 ^ 31 → IsHalfReciprocal (pos x) (improved (pos x) (pos (reciprocal_bits x)))
near_pos x h k =
    let q = reciprocal_bits x in
    let is = reciprocal_estimated x h k in
    let u : x * q ≤ 2 ^ 32 = omega (arith, is.high) in
    let r = rest_of (x * q) in
    rw (improved_pos x q u) (within_pos x _ (clamped_close x (q * r / 65536) 2147483647 h (omega arith) (positive x q _ r (q * r / 65536) (omega arith) is (rest_is (x * q) u) (omega arith) (omega arith))))

-- a negative one of size suc a
near_neg : (a b : ℕ) → a < 2 ^ 31 → IsBelow (suc a) (suc b) → suc a * suc b ≤ 2 ^ 32 → IsHalfReciprocal (negsuc a) (improved (negsuc a) (negsuc b))
near_neg a b k is u =
    let r = rest_of (suc a * suc b) in
    let n = (suc b * r + 65535) / 65536 in
    rw (improved_neg a b r n u refl (omega arith) (omega arith)) (within_neg a _ (clamped_close (suc a) n 2147483648 (omega arith) (omega arith) (negative (suc a) (suc b) _ r n (omega arith) is (rest_is (suc a * suc b) u) (omega arith) (omega arith))))

reciprocal_pos : (x : ℕ) → 0 < x → reciprocal_of (pos x) ≡ pos (reciprocal_bits x)
reciprocal_pos x h = grind (arith, nat_tests, ints)

-- the table's reciprocal of a small and of a large number
small : (x : ℕ) → 0 < x → x < 32768 → IsBelow x (suc (reciprocal_bits x)) × (x * suc (reciprocal_bits x) ≤ 2 ^ 32)
small x h k = let is = reciprocal_estimated x h (omega arith) in (record { low = omega (arith, is.low); high = omega (arith, is.high) }, omega (arith, is.inside))

large : (x : ℕ) → 32768 ≤ x → x < 2 ^ 31 → IsBelow (suc x) (suc (reciprocal_bits x)) × (suc x * suc (reciprocal_bits x) ≤ 2 ^ 32)
large x h k =
    let is = reciprocal_estimated x (omega arith) k in
    let q = reciprocal_bits x in
    let f : 32768 * q ≤ x * q = mul-le 32768 q x q h (omega arith) in
    (record { low = omega (arith, is.low); high = omega (arith, is.high) }, omega (arith, is.inside))

reciprocal_small : (a : ℕ) → a < 32767 → reciprocal_of (negsuc a) ≡ negsuc (reciprocal_bits (suc a))
reciprocal_small a h = grind (arith, nat_tests, ints)

reciprocal_large : (a : ℕ) → 32767 < a → reciprocal_of (negsuc a) ≡ negsuc (reciprocal_bits a)
reciprocal_large a h = grind (arith, nat_tests, ints)

pub near_reciprocal : (x : ℤ) → negsuc 2147483647 ≤ℤ x → x ≤ℤ pos 2147483647 → x ≢ pos 0 → IsHalfReciprocal x (improved x (reciprocal_of x))
near_reciprocal (pos zero) h k not = absurd (not refl)
near_reciprocal (pos (suc x)) h k not = rw (reciprocal_pos (suc x) (omega arith)) (near_pos (suc x) (omega arith) (omega (arith, ints)))
near_reciprocal (negsuc a) h k not = elim (cases_order a 32767) [
  | inl e ↦ rw e (near_neg 32767 65535 (omega arith) (record { low = omega arith; high = omega arith }) (omega arith))
  | inr o ↦ elim o [
    | inl l ↦ let s = small (suc a) (omega arith) (omega arith) in rw (reciprocal_small a l) (near_neg a _ (omega arith) s.0 s.1)
    | inr g ↦ let s = large a (omega arith) (omega (arith, ints)) in rw (reciprocal_large a g) (near_neg a _ (omega (arith, ints)) s.0 s.1)
  ]
]
