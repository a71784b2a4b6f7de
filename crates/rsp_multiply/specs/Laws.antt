-- A multiply that replaces the accumulators, and multiplies after it that add to them.
use Rattle.std.specs.Prelude.{ℕ, ℤ, pos, ◌+ℤ◌, ◌<◌, ◌≡◌, true, false, List, [], ◌∷◌, slice_index, All}
use Rattle.rsp_lanes.specs.Lanes.{each_lane, IsVector, selected}
use Rattle.rsp_numbers.specs.Numbers.{s48}
use Rattle.rsp_acc.specs.Parts.{clamp_of}
use Rattle.rsp_multiply.specs.declared.op.MultiplyOp.{MultiplyOp}
use Rattle.rsp_multiply.specs.MultiplyRules.{multiply_rule, accumulators_after, multiply_results}

-- a multiply instruction: its operation, the lanes of its registers vs and vt, and its element
pub record MultiplyInstruction : Type 0 where
  pub op : MultiplyOp
  pub vs : List ℕ
  pub vt : List ℕ
  pub element : ℕ

-- registers of eight lanes below 65536, and an element below 16
abbrev pub IsMultiplyInstruction : MultiplyInstruction → Type 0
IsMultiplyInstruction s = IsVector s.vs × IsVector s.vt × (s.element < 16)

-- the lanes of vt that the element selects
abbrev pub operand : MultiplyInstruction → List ℕ
operand s = selected s.vt s.element

-- what the instruction makes of lane i of its operands
abbrev pub addend_of : MultiplyInstruction → ℕ → ℤ
addend_of s i = (multiply_rule s.op).addend (slice_index s.vs i) (slice_index (operand s) i)

-- the accumulators after the instructions, from those before
abbrev pub after : List MultiplyInstruction → List ℤ → List ℤ
after [] xs = xs
after (s ∷ ss) xs = after ss (accumulators_after s.op s.vs (operand s) xs)

-- their results, in order
abbrev pub results : List MultiplyInstruction → List ℤ → List (List ℕ)
results [] xs = []
results (s ∷ ss) xs = multiply_results s.op (accumulators_after s.op s.vs (operand s) xs) ∷ results ss (accumulators_after s.op s.vs (operand s) xs)

-- the sum of the addends of lane i, as a whole number that never wraps
abbrev pub sum_of : List MultiplyInstruction → ℕ → ℤ
sum_of [] i = pos 0
sum_of (s ∷ ss) i = addend_of s i +ℤ sum_of ss i

-- for each instruction in order, its clamp of s48 of the sum so far; `sum i` is the sum of lane i before them
abbrev pub clamped_sums : List MultiplyInstruction → (ℕ → ℤ) → List (List ℕ)
clamped_sums [] sum = []
clamped_sums (s ∷ ss) sum =
    each_lane (λ i. clamp_of (multiply_rule s.op).clamp (s48 (sum i +ℤ addend_of s i))) ∷ clamped_sums ss (λ i. sum i +ℤ addend_of s i)

-- each accumulator is s48 of the sum of all addends, and each result is its instruction's clamp of s48 of the sum so
-- far
abbrev pub SumsOfProducts : Type 0
SumsOfProducts =
    (first : MultiplyInstruction) (more : List MultiplyInstruction) (before : List ℤ)
    → IsMultiplyInstruction first → (multiply_rule first.op).adds ≡ false
    → All IsMultiplyInstruction more → All (λ s. (multiply_rule s.op).adds ≡ true) more
    → (after (first ∷ more) before ≡ each_lane (λ i. s48 (sum_of (first ∷ more) i)))
    × (results (first ∷ more) before ≡ clamped_sums (first ∷ more) (λ _. pos 0))
