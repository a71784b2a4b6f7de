-- Each radicand of the root table has exactly one root.
use Rattle.std.proofs.Common.{ℕ, zero, suc, ◌+◌, ◌*◌, ◌^◌, ◌<◌, ◌≤◌, inl, inr, arith, subst}
use Rattle.std.proofs.lemmas.Bool.{cases_lt}
use Rattle.std.proofs.lemmas.Nat.{mul-le}
use Rattle.std.proofs.lemmas.Bool.Decides.{nat_tests}
use Rattle.std.proofs.Math.Nat.{mul-le-mul_left}
use Rattle.rsp_numbers.specs.Roots.{radicand, IsRoot, HasOne}

pub radicand_low : (i : ℕ) → 256 ≤ radicand i
radicand_low i = grind (arith, nat_tests)

square-le : (a b c : ℕ) → b ≤ c → a * (b * b) ≤ a * (c * c)
square-le a b c h = mul-le-mul_left a (mul-le b b c c h h)

-- no root is below another
none_below : (a b c : ℕ) → IsRoot a b → IsRoot a c → c ≤ b
none_below a b c r s = elim (cases_lt b c) [
  | inl l ↦ let le : a * ((b + 1) * (b + 1)) ≤ a * (c * c) = square-le a (b + 1) c (omega arith) in absurd (omega (arith, r.above, s.below))
  | inr g ↦ g
]

-- going down from a number that is too great
found : (a n : ℕ) → 2 ^ 44 ≤ a * (n * n) → (b : ℕ) × IsRoot a b
found a zero h = absurd (omega (arith, h))
found a (suc n) h = elim (cases_lt (a * (n * n)) (2 ^ 44)) [
  | inl l ↦ (n, record { below = l; above = subst (λ (k : ℕ). 2 ^ 44 ≤ a * (k * k)) (omega arith) h })
  | inr g ↦ found a n g
]

-- the root of a radicand is below 2^18
pub root_small : (a b : ℕ) → 256 ≤ a → IsRoot a b → b < 2 ^ 18
root_small a b p r = elim (cases_lt b (2 ^ 18)) [
  | inl l ↦ l
  | inr g ↦
      let s : 2 ^ 18 * 2 ^ 18 ≤ b * b = mul-le (2 ^ 18) (2 ^ 18) b b g g in
      let t : 256 * (2 ^ 18 * 2 ^ 18) ≤ a * (b * b) = mul-le 256 (2 ^ 18 * 2 ^ 18) a (b * b) p s in
      absurd (omega (arith, r.below))
]

pub one_root : (i : ℕ) → HasOne (IsRoot (radicand i))
one_root i =
    let from = found (radicand i) (2 ^ 18) (mul-le 256 (2 ^ 18 * 2 ^ 18) (radicand i) (2 ^ 18 * 2 ^ 18) (radicand_low i) (omega arith)) in
    (from.0, from.1, λ c r. omega (arith, none_below (radicand i) from.0 c from.1 r, none_below (radicand i) c from.0 r from.1))
