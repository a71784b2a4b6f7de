-- The least number that passes a test.
use Rattle.std.proofs.Common.{◌≡◌, ℕ, zero, suc, ◌<◌, ◌≤◌, refl, ap, sym, ◌∙◌, arith, Bool, true, false, cond, inl, inr}
use Rattle.std.proofs.lemmas.Bool.{cases_lt}
use Rattle.rsp_debug.specs.Stops.{least}

-- k is the least number below n that passes, or n
pub record IsLeast (test : ℕ → Bool) (n k : ℕ) : Type 0 where
  pub within : k ≤ n
  pub before : (j : ℕ) → j < k → test j ≡ false
  pub here : k < n → test k ≡ true

later : (test : ℕ → Bool) (n k : ℕ) (b : Bool) → test zero ≡ b → IsLeast (λ i. test (suc i)) n k → IsLeast test (suc n) (cond b zero (suc k))
later test n k true e next = record { within = omega arith; before = λ j h. absurd (omega (arith, h)); here = λ h. e }
later test n k false e next = record { within = omega (arith, next.within); before = before; here = λ h. next.here (omega (arith, h)) }
  where
    before : (j : ℕ) → j < suc k → test j ≡ false
    before zero h = e
    before (suc j) h = next.before j (omega (arith, h))

pub least-is : (test : ℕ → Bool) (n : ℕ) → IsLeast test n (least test n)
least-is test zero = record { within = omega arith; before = λ j h. absurd (omega (arith, h)); here = λ h. absurd (omega (arith, h)) }
least-is test (suc n) = later test n (least (λ i. test (suc i)) n) (test zero) refl (least-is (λ i. test (suc i)) n)

pub least-passes : (test : ℕ → Bool) (n : ℕ) → test n ≡ true → test (least test n) ≡ true
least-passes test n last =
    elim (cases_lt (least test n) n) [
      | inl h ↦ (least-is test n).here h
      | inr h ↦ ap test (let same : least test n ≡ n = omega (arith, h, (least-is test n).within) in same) ∙ last
    ]

-- it is above the numbers that don't pass, so there is only one
pub least-above : (test : ℕ → Bool) (n k : ℕ) → k ≤ n → ((j : ℕ) → j < k → test j ≡ false) → k ≤ least test n
least-above test n k within before =
    let is = least-is test n in
    elim (cases_lt (least test n) k) [
      | inl h ↦ let no : true ≡ false = sym (is.here (omega (arith, h, within))) ∙ before (least test n) h in absurd (cc)
      | inr h ↦ h
    ]

pub least-only : (test : ℕ → Bool) (n k : ℕ) → IsLeast test n k → least test n ≡ k
least-only test n k is =
    elim (cases_lt k (least test n)) [
      | inl h ↦ let l = least-is test n in let no : true ≡ false = sym (is.here (omega (arith, h, l.within))) ∙ l.before k h in cc
      | inr h ↦ omega (arith, h, least-above test n k is.within is.before)
    ]
