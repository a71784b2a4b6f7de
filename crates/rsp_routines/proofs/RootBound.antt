-- How near the square root is after a step of Newton's method.
use Rattle.std.proofs.Common.{◌≡◌, ℕ, zero, suc, ◌+◌, ◌-◌, ◌*◌, ◌/◌, ◌^◌, ◌<◌, ◌≤◌, ℤ, pos, ◌*ℤ◌, inl, inr, refl, ap, ◌∙◌, arith}
use Rattle.std.specs.Prelude.{◌-ℤ◌}
use Rattle.std.proofs.lemmas.Int.{ints, clamps}
use Rattle.std.proofs.lemmas.Bool.{cases_lt}
use Rattle.std.proofs.lemmas.Bool.Decides.{nat_tests}
use Rattle.std.proofs.Math.Nat.{mul-le-mul_left}
use Rattle.std.proofs.lemmas.Nat.{mul-le}
use Rattle.rsp_numbers.specs.Numbers.{floor_div}
use Rattle.rsp_divide.specs.Quotients.{inverse_root_of, root_bits}
use Rattle.rsp_microcode.specs.Fixed.{limited, fixed_product}
use Rattle.rsp_routines.specs.Root.{improved_root, rooted, IsNearRoot}
use Rattle.rsp_routines.proofs.ReciprocalBound.{doubled}
use Rattle.rsp_routines.proofs.RootEstimates.{IsRootEstimate, root_estimated}

-- (3n - b) b b has its greatest value, 4n^3, at 2n
cubic : (n b : ℕ) → 3 * (n * (b * b)) ≤ 4 * (n * (n * n)) + b * (b * b)
cubic n b = let f : (n + b) * (2 * (2 * n * b)) ≤ (n + b) * (2 * n * (2 * n) + b * b) = mul-le-mul_left (n + b) (doubled (2 * n) b) in omega arith

below_cubic : (n w a : ℕ) → w + a ≤ 3 * n → w * (a * a) ≤ 4 * (n * (n * n))
below_cubic n w a h =
    let f : (w + a) * (a * a) ≤ 3 * n * (a * a) = mul-le (w + a) (a * a) (3 * n) (a * a) h (omega arith) in
    let g = cubic n a in
    omega arith

-- and near there it is less by little
module _ (w b : ℕ) (sum : w + b ≡ 3 * 2 ^ 62) where
  above_cubic : (d : ℕ) → d ≤ 2 ^ 54 → (n : ℕ) → n ≡ (2 ^ 62 + b) * (d * d) → n ≤ 2 ^ 172
  above_cubic d h n e =
      let f : d * d ≤ 2 ^ 54 * 2 ^ 54 = mul-le d d (2 ^ 54) (2 ^ 54) h h in
      let g : (2 ^ 62 + b) * (d * d) ≤ 2 ^ 64 * 2 ^ 108 = mul-le (2 ^ 62 + b) (d * d) (2 ^ 64) (2 ^ 108) (omega arith) (omega arith) in
      omega arith

  more : (d : ℕ) → d ≤ 2 ^ 54 → b ≡ 2 ^ 63 + d → 2 ^ 188 ≤ w * (b * b) + 2 ^ 172
  more d h e =
      let f : (w + b) * (b * b) ≡ 3 * 2 ^ 62 * (b * b) = ap (λ n. n * (b * b)) sum in
      let g : b * b ≡ (2 ^ 63 + d) * (2 ^ 63 + d) = ap (λ n. n * n) e in
      let i : b * (b * b) ≡ (2 ^ 63 + d) * ((2 ^ 63 + d) * (2 ^ 63 + d)) = ap (λ n. n * (n * n)) e in
      let j : b * (d * d) ≡ (2 ^ 63 + d) * (d * d) = ap (λ n. n * (d * d)) e in
      let k = above_cubic d h _ refl in
      omega arith

  less : (d : ℕ) → d ≤ 2 ^ 54 → b + d ≡ 2 ^ 63 → 2 ^ 188 ≤ w * (b * b) + 2 ^ 172
  less d h e =
      let f : (w + b) * (b * b) ≡ 3 * 2 ^ 62 * (b * b) = ap (λ n. n * (b * b)) sum in
      let g : (b + d) * b ≡ 2 ^ 63 * b = ap (λ n. n * b) e in
      let i : (b + d) * d ≡ 2 ^ 63 * d = ap (λ n. n * d) e in
      let j : (b + d) * (b * b) ≡ 2 ^ 63 * (b * b) = ap (λ n. n * (b * b)) e in
      let l : (b + d) * (b * d) ≡ 2 ^ 63 * (b * d) = ap (λ n. n * (b * d)) e in
      let k = above_cubic d h _ refl in
      omega arith

near_cubic : (w a : ℕ) → 3 * 2 ^ 62 ≤ w + a → w ≤ 2 ^ 62 + 2 ^ 54 → 2 ^ 62 ≤ w + 2 ^ 54 → 2 ^ 188 ≤ w * (a * a) + 2 ^ 172
near_cubic w a h low high =
    let b = 3 * 2 ^ 62 - w in
    let sum : w + b ≡ 3 * 2 ^ 62 = omega arith in
    let f : b * b ≤ a * a = mul-le b b a a (omega arith) (omega arith) in
    let g : w * (b * b) ≤ w * (a * a) = mul-le-mul_left w f in
    let i : 2 ^ 188 ≤ w * (b * b) + 2 ^ 172 = elim (cases_lt b (2 ^ 63)) [
      | inl l ↦ less w b sum (2 ^ 63 - b) (omega arith) (omega arith)
      | inr m ↦ more w b sum (b - 2 ^ 63) (omega arith) (omega arith)
    ] in
    omega arith

-- The step: q is near 2^31 over the root of x, t is x q / 2^16, h is t q / 2^32, r is 98304 less 2 h, p is t r / 2^16, and m, the
-- result, is p / 128; each is rounded down.
record IsMultiplyInstruction (x q t h r p m : ℕ) : Type 0 where
  product_low : t * 65536 ≤ x * q
  product_high : x * q ≤ t * 65536 + 65535
  half_low : h * 2 ^ 32 ≤ t * q
  half_high : t * q < h * 2 ^ 32 + 2 ^ 32
  rest : r + 2 * h ≡ 98304
  low : p * 65536 ≤ t * r
  high : t * r ≤ p * 65536 + 65535
  last_low : m * 128 ≤ p
  last_high : p ≤ m * 128 + 127

-- what follows for the rest: with w for x q q, it is nearly (3 * 2^62 - w) / 2^47
record IsStepRest (x q t r : ℕ) : Type 0 where
  above : 3 * 2 ^ 62 ≤ x * (q * q) + 2 ^ 47 * r
  below : x * (q * q) + 2 ^ 47 * r ≤ 3 * 2 ^ 62 + 3 * 2 ^ 47
  square : (x * q) * (x * q) ≤ 2 ^ 93 + 2 ^ 85
  product : x * q < 2 ^ 47
  least : 2 ^ 62 ≤ x * (q * q) + 2 ^ 49

rest_near : (x q t h r p m : ℕ) → x < 2 ^ 31 → IsRootEstimate x q → IsMultiplyInstruction x q t h r p m → IsStepRest x q t r
rest_near x q t h r p m small is step =
    let a : t * 65536 * q ≤ x * q * q = mul-le (t * 65536) q (x * q) q step.product_low (omega arith) in
    let b : x * q * q ≤ (t * 65536 + 65535) * q = mul-le (x * q) q (t * 65536 + 65535) q step.product_high (omega arith) in
    let c : x * (x * (q * q)) ≤ 2 ^ 31 * (2 ^ 62 + 2 ^ 54) = mul-le x (x * (q * q)) (2 ^ 31) (2 ^ 62 + 2 ^ 54) (omega arith) is.high in
    let d : x * q < 2 ^ 47 = elim (cases_lt (x * q) (2 ^ 47)) [
      | inl l ↦ l
      | inr g ↦ let f : 2 ^ 47 * 2 ^ 47 ≤ (x * q) * (x * q) = mul-le (2 ^ 47) (2 ^ 47) (x * q) (x * q) g g in absurd (omega arith)
    ] in
    record {
      above = omega (arith, step.half_low, step.rest);
      below = omega (arith, step.half_high, step.rest, is.small);
      square = omega arith;
      product = d;
      least = omega (arith, is.low);
    }

-- the square of x q r
squared : (x q t r : ℕ) → IsStepRest x q t r → 2 ^ 94 * ((x * q * r) * (x * q * r)) ≤ 2 ^ 172 * (65543 * x)
squared x q t r is =
    let f = below_cubic (2 ^ 62 + 2 ^ 47) (x * (q * q)) (2 ^ 47 * r) (omega (arith, is.below)) in
    let g : x * (x * (q * q) * (2 ^ 47 * r * (2 ^ 47 * r))) ≤ x * (4 * ((2 ^ 62 + 2 ^ 47) * ((2 ^ 62 + 2 ^ 47) * (2 ^ 62 + 2 ^ 47)))) = mul-le-mul_left x f in
    omega arith

upper : (x q t h r p m : ℕ) → IsMultiplyInstruction x q t h r p m → IsStepRest x q t r → m * m ≤ 65543 * x
upper x q t h r p m step is =
    let f : t * 65536 * r ≤ x * q * r = mul-le (t * 65536) r (x * q) r step.product_low (omega arith) in
    let g : m * 2 ^ 39 ≤ x * q * r = omega (arith, step.low, step.last_low) in
    let i : m * 2 ^ 39 * (m * 2 ^ 39) ≤ x * q * r * (x * q * r) = mul-le (m * 2 ^ 39) (m * 2 ^ 39) (x * q * r) (x * q * r) g g in
    let j = squared x q t r is in
    omega arith

-- so no product is clamped
inside : (x q t h r p m : ℕ) → x < 2 ^ 31 → IsMultiplyInstruction x q t h r p m → IsStepRest x q t r → p < 2 ^ 31
inside x q t h r p m small step is = elim (cases_lt p (2 ^ 31)) [
  | inl l ↦ l
  | inr g ↦
      let f : t * 65536 * r ≤ x * q * r = mul-le (t * 65536) r (x * q) r step.product_low (omega arith) in
      let a : 2 ^ 63 ≤ x * q * r = omega (arith, step.low) in
      let i : 2 ^ 63 * 2 ^ 63 ≤ x * q * r * (x * q * r) = mul-le (2 ^ 63) (2 ^ 63) (x * q * r) (x * q * r) a a in
      let j = squared x q t r is in
      absurd (omega arith)
]

-- what a bound of g r says of its square, if it is off by 2^16 r
less_square : (g c r : ℕ) → g * r ≤ c + 65536 * r → (g * g) * (r * r) ≤ c * c + 131072 * (g * (r * r))
less_square g c r h = elim (cases_lt g 65536) [
  | inl l ↦ let f : g * (g * (r * r)) ≤ 65536 * (g * (r * r)) = mul-le g (g * (r * r)) 65536 (g * (r * r)) (omega arith) (omega arith) in omega arith
  | inr m ↦ apart (g - 65536) (omega arith)
]
  where
    apart : (y : ℕ) → g ≡ y + 65536 → (g * g) * (r * r) ≤ c * c + 131072 * (g * (r * r))
    apart y e =
        let a : g * r ≡ (y + 65536) * r = ap (λ n. n * r) e in
        let b : y * r * (y * r) ≤ c * c = mul-le (y * r) (y * r) c c (omega arith) (omega arith) in
        rw e (omega arith)

lower : (x q t h r p m : ℕ) → IsRootEstimate x q → IsMultiplyInstruction x q t h r p m → IsStepRest x q t r → 65530 * x ≤ (m + 1) * (m + 1)
lower x q t h r p m of step is =
    let w = x * (q * q) in
    let a = 2 ^ 47 * r in
    let f : x * q * r ≤ (t * 65536 + 65535) * r = mul-le (x * q) r (t * 65536 + 65535) r step.product_high (omega arith) in
    let g : x * q * r ≤ (m + 1) * 2 ^ 39 + 65536 * r = omega (arith, step.high, step.last_high) in
    let i = less_square (x * q) ((m + 1) * 2 ^ 39) r g in
    let j : x * 2 ^ 188 ≤ x * (w * (a * a) + 2 ^ 172) = mul-le-mul_left x (near_cubic w a is.above (omega (arith, of.high)) (omega (arith, is.least))) in
    let k : a ≤ 2 ^ 63 + 2 ^ 50 = omega (arith, is.below, is.least) in
    let l : a * a ≤ (2 ^ 63 + 2 ^ 50) * (2 ^ 63 + 2 ^ 50) = mul-le a a (2 ^ 63 + 2 ^ 50) (2 ^ 63 + 2 ^ 50) k k in
    let n : q * (a * a) ≤ 2 ^ 31 * ((2 ^ 63 + 2 ^ 50) * (2 ^ 63 + 2 ^ 50)) = mul-le q (a * a) (2 ^ 31) ((2 ^ 63 + 2 ^ 50) * (2 ^ 63 + 2 ^ 50)) (omega (arith, of.small)) l in
    let o : x * (q * (a * a)) ≤ x * (2 ^ 31 * ((2 ^ 63 + 2 ^ 50) * (2 ^ 63 + 2 ^ 50))) = mul-le-mul_left x n in
    omega arith

-- the steps as they are computed
step_of : (x q t e r p : ℕ) → x * q / 65536 ≡ t → t * q / 65536 ≡ e → e / 65536 ≤ 49152 → 98304 - 2 * (e / 65536) ≡ r → t * r / 65536 ≡ p → IsMultiplyInstruction x q t (e / 65536) r p (p / 128)
step_of x q t e r p f g h i j = record {
  product_low = omega arith;
  product_high = omega arith;
  half_low = omega arith;
  half_high = omega arith;
  rest = omega arith;
  low = omega arith;
  high = omega arith;
  last_low = omega arith;
  last_high = omega arith;
}

half_small : (x q t e : ℕ) → IsRootEstimate x q → x * q / 65536 ≡ t → t * q / 65536 ≡ e → e ≤ 2 ^ 30 + 2 ^ 22
half_small x q t e is f g =
    let a : t * 65536 * q ≤ x * q * q = mul-le (t * 65536) q (x * q) q (omega arith) (omega arith) in
    omega (arith, is.high)

limited_small : (n : ℕ) → n < 2147483648 → limited (pos n) ≡ pos n
limited_small n h = omega (arith, ints, clamps)

product_of : (a b n : ℕ) → a * b / 65536 ≡ n → n < 2147483648 → fixed_product (pos a) (pos b) ≡ pos n
product_of a b n e h = ap (λ i. limited (pos i)) e ∙ limited_small n h

rest_of : (e r : ℕ) → e / 65536 ≤ 49152 → 98304 - 2 * (e / 65536) ≡ r → limited (pos 98304 -ℤ pos 2 *ℤ floor_div (pos e) 65536) ≡ pos r
rest_of e r h i = omega (arith, ints, clamps)

-- what the step makes of a number and its estimate
pub record IsRooted (x : ℕ) (q : ℤ) : Type 0 where
  pub half : ℕ
  pub half_is : fixed_product (fixed_product (pos x) q) q ≡ pos half
  pub root : ℕ
  pub root_is : improved_root (pos x) q ≡ pos root
  pub near : IsNearRoot x root

rooted_positive : (x q : ℕ) → x < 2 ^ 31 → IsRootEstimate x q → IsRooted x (pos q)
rooted_positive x q small is =
    let t = x * q / 65536 in
    let e = t * q / 65536 in
    let h = e / 65536 in
    let r = 98304 - 2 * h in
    let p = t * r / 65536 in
    let e_small = half_small x q t e is refl refl in
    let h_small : h ≤ 49152 = omega arith in
    let step = step_of x q t e r p refl refl h_small refl refl in
    let rest = rest_near x q t h r p (p / 128) small is step in
    let first : fixed_product (pos x) (pos q) ≡ pos t = product_of x q t refl (omega (arith, rest.product)) in
    let second : fixed_product (pos t) (pos q) ≡ pos e = product_of t q e refl (omega arith) in
    let third : fixed_product (pos t) (pos r) ≡ pos p = product_of t r p refl (omega (arith, inside x q t h r p (p / 128) small step rest)) in
    record {
      half = e;
      half_is = ap (λ z. fixed_product z (pos q)) first ∙ second;
      root = p / 128;
      root_is = ap (λ z. rooted z (pos q)) first
          ∙ ap (λ z. floor_div (fixed_product (pos t) (limited (pos 98304 -ℤ pos 2 *ℤ floor_div z 65536))) 128) second
          ∙ ap (λ z. floor_div (fixed_product (pos t) z) 128) (rest_of e r h_small refl)
          ∙ ap (λ z. floor_div z 128) third;
      near = record { below = upper x q t h r p (p / 128) step rest; above = lower x q t h r p (p / 128) is step rest };
    }

inverse_root_pos : (x : ℕ) → 0 < x → inverse_root_of (pos x) ≡ pos (root_bits x)
inverse_root_pos x h = grind (arith, nat_tests, ints)

pub rooted_near : (x : ℕ) → x < 2 ^ 31 → IsRooted x (inverse_root_of (pos x))
rooted_near zero h = record { half = 0; half_is = refl; root = 0; root_is = refl; near = record { below = omega arith; above = omega arith } }
rooted_near (suc x) h = rw (inverse_root_pos (suc x) (omega arith)) (rooted_positive (suc x) (root_bits (suc x)) h (root_estimated (suc x) (omega arith) h))
