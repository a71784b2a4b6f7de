use Rattle.std.proofs.Common.{◌≡◌, ◌∙◌, ℕ, ℤ, pos, ◌+ℤ◌, List, [], ◌∷◌, refl, ap, arith, true, false, All}
use Rattle.std.proofs.lemmas.Int.{ints}
use Rattle.std.proofs.lemmas.List.Elements.{All-head, All-tail}
use Rattle.rsp_lanes.specs.Lanes.{each_lane}
use Rattle.rsp_lanes.proofs.Kit.{lane_of, each_same}
use Rattle.rsp_numbers.specs.Numbers.{s48}
use Rattle.rsp_numbers.proofs.Wrap.{s48_differs, s48_same}
use Rattle.rsp_acc.specs.Parts.{clamp_of}
use Rattle.rsp_multiply.specs.MultiplyRules.{multiply_rule, accumulators_after, multiply_results}
use Rattle.rsp_multiply.specs.Laws.{MultiplyInstruction, operand, addend_of, after, results, sum_of, clamped_sums}
use Rattle.rsp_multiply.proofs.laws.l4.Goals as goal

s48_sum : (x n : ℤ) → s48 (s48 x +ℤ n) ≡ s48 (x +ℤ n)
s48_sum x n = let d = s48_differs x in s48_same _ _ d.1 d.0 (omega (arith, ints, d.2))

-- the accumulators of these sums
abbrev wrapped : (ℕ → ℤ) → List ℤ
wrapped sum = each_lane (λ i. s48 (sum i))

abbrev Adds : MultiplyInstruction → Type 0
Adds s = (multiply_rule s.op).adds ≡ true

replaced : (s : MultiplyInstruction) (before : List ℤ) → (multiply_rule s.op).adds ≡ false → accumulators_after s.op s.vs (operand s) before ≡ wrapped (λ i. pos 0 +ℤ addend_of s i)
unfolding accumulators_after
replaced s before e = each_same _ _ (λ i h. rw e (ap s48 (omega (arith, ints))))

added : (s : MultiplyInstruction) (sum : ℕ → ℤ) → (multiply_rule s.op).adds ≡ true → accumulators_after s.op s.vs (operand s) (wrapped sum) ≡ wrapped (λ i. sum i +ℤ addend_of s i)
unfolding accumulators_after
added s sum e = each_same _ _ (λ i h. rw (e, lane_of (pos 0) (λ i. s48 (sum i)) (wrapped sum) refl i h) (s48_sum (sum i) (addend_of s i)))

-- the accumulators after instructions that add, from a sum so far
sums : (sum : ℕ → ℤ) (ss : List MultiplyInstruction) → All Adds ss → after ss (wrapped sum) ≡ wrapped (λ i. sum i +ℤ sum_of ss i)
sums sum [] h = each_same _ _ (λ i k. ap s48 (omega (arith, ints)))
sums sum (s ∷ ss) h =
    ap (after ss) (added s sum (All-head Adds s ss h)) ∙ sums (λ i. sum i +ℤ addend_of s i) ss (All-tail Adds s ss h)
    ∙ each_same _ _ (λ i k. ap s48 (omega (arith, ints)))

clamps : (op : _) (sum : ℕ → ℤ) → multiply_results op (wrapped sum) ≡ each_lane (λ i. clamp_of (multiply_rule op).clamp (s48 (sum i)))
unfolding multiply_results
clamps op sum = each_same _ _ (λ i h. ap (clamp_of (multiply_rule op).clamp) (lane_of (pos 0) (λ i. s48 (sum i)) (wrapped sum) refl i h))

-- and their results
clamped : (sum : ℕ → ℤ) (ss : List MultiplyInstruction) → All Adds ss → results ss (wrapped sum) ≡ clamped_sums ss sum
clamped sum [] h = refl
clamped sum (s ∷ ss) h =
    ap (λ xs. multiply_results s.op xs ∷ results ss xs) (added s sum (All-head Adds s ss h))
    ∙ ap (λ r. r ∷ results ss (wrapped (λ i. sum i +ℤ addend_of s i))) (clamps s.op (λ i. sum i +ℤ addend_of s i))
    ∙ ap (λ rs. each_lane (λ i. clamp_of (multiply_rule s.op).clamp (s48 (sum i +ℤ addend_of s i))) ∷ rs) (clamped (λ i. sum i +ℤ addend_of s i) ss (All-tail Adds s ss h))

pub returns : goal.returns
returns c first more before bounds replaces all_bounds all_add =
    let start = replaced first before replaces in (
      ap (after more) start ∙ sums (λ i. pos 0 +ℤ addend_of first i) more all_add ∙ each_same _ _ (λ i k. ap s48 (omega (arith, ints))),
      ap (λ xs. multiply_results first.op xs ∷ results more xs) start
          ∙ ap (λ r. r ∷ results more (wrapped (λ i. pos 0 +ℤ addend_of first i))) (clamps first.op (λ i. pos 0 +ℤ addend_of first i))
          ∙ ap (λ rs. each_lane (λ i. clamp_of (multiply_rule first.op).clamp (s48 (pos 0 +ℤ addend_of first i))) ∷ rs) (clamped (λ i. pos 0 +ℤ addend_of first i) more all_add),
    )
