-- Sums of products: multiplies that read no result of one another.
use Rattle.std.specs.Prelude.{ℕ, pos, ◌≡◌, Bool, true, false, not, ◌&&◌, nat_eq, nat_lt, List, [], ◌∷◌, map}
use Rattle.std.specs.List.{list_all}
use Rattle.rsp_decode.specs.declared.inst.Inst.{Inst}
use Rattle.rsp_decode.specs.declared.inst.Inst.TheVariants.{Multiply}
use Rattle.rsp_decode.specs.declared.vector.VectorMultiplyOp.{VectorMultiplyOp}
use Rattle.rsp_decode.specs.declared.fields.VectorFields.{VectorFields}
use Rattle.rsp_loadstore.specs.File.{IsFile, vector, with_vector}
use Rattle.rsp_multiply.specs.Laws.{MultiplyInstruction, after, results, sum_of, clamped_sums}
use Rattle.rsp_multiply.specs.MultiplyRules.{multiply_rule}
use Rattle.rsp_numbers.specs.Numbers.{s48}
use Rattle.rsp_lanes.specs.Lanes.{each_lane}
use Rattle.rsp_scalar.specs.Flow.{address_after}
use Rattle.rsp_machine.specs.Operations.{multiply_of}
use Rattle.rsp_machine.specs.State.{State}
use Rattle.rsp_microcode.specs.Runs.{ran_through, address_after_words}
use Rattle.rsp_microcode.specs.Reads.{Write, after_writes}

-- a multiply instruction: a term of a sum
pub record Term : Type 0 where
  pub name : VectorMultiplyOp
  pub fields : VectorFields

-- name vd, vs, vt[e]
abbrev pub term : VectorMultiplyOp → ℕ → ℕ → ℕ → ℕ → Term
term name vd vs vt e = record { name = name; fields = record { vd = vd; vs = vs; vt = vt; element = e } }

abbrev pub instruction : Term → Inst
instruction m = Multiply m.name m.fields

-- the multiply on the values of the registers that it reads
abbrev pub step_in : List (List ℕ) → Term → MultiplyInstruction
step_in file m = record { op = multiply_of m.name; vs = vector file m.fields.vs; vt = vector file m.fields.vt; element = m.fields.element }

abbrev pub reads_other : ℕ → Term → Bool
reads_other vd m = not (nat_eq vd m.fields.vs) && not (nat_eq vd m.fields.vt)

-- none reads what one before it wrote
abbrev pub independent : List Term → Bool
independent [] = true
independent (m ∷ ms) = list_all (reads_other m.fields.vd) ms && independent ms

-- the results as writes of registers
abbrev pub writes : List Term → List (List ℕ) → List (Write (List ℕ))
writes [] rs = []
writes (m ∷ ms) [] = []
writes (m ∷ ms) (r ∷ rs) = (m.fields.vd, r) ∷ writes ms rs

-- the state after them
abbrev pub multiplied : List Term → State → State
multiplied ms s = record s {
  pc = address_after_words ms s.pc;
  npc = address_after_words ms s.npc;
  accumulators = after (map (step_in s.vectors) ms) s.accumulators;
  vectors = after_writes with_vector (writes ms (results (map (step_in s.vectors) ms) s.accumulators)) s.vectors;
}

-- the first replaces the accumulators, the others add to them, and their fields are those of a word
abbrev pub adds : Term → Bool
adds m = (multiply_rule (step_in [] m).op).adds

abbrev pub has_fields : Term → Bool
has_fields m = (nat_lt m.fields.vs 32 && nat_lt m.fields.vt 32) && nat_lt m.fields.element 16

abbrev pub is_sum : List Term → Bool
is_sum [] = false
is_sum (m ∷ ms) = (not (adds m) && list_all adds ms) && list_all has_fields (m ∷ ms)

-- what such a sum writes: for each multiply in order the clamp of the sum so far
abbrev pub sum_writes : List Term → List (List ℕ) → List (Write (List ℕ))
sum_writes ms file = writes ms (clamped_sums (map (step_in file) ms) (λ _. pos 0))

-- the state after it
abbrev pub summed : List Term → State → State
summed ms s = record s {
  pc = address_after_words ms s.pc;
  npc = address_after_words ms s.npc;
  accumulators = each_lane (λ i. s48 (sum_of (map (step_in s.vectors) ms) i));
  vectors = after_writes with_vector (sum_writes ms s.vectors) s.vectors;
}

-- A run through a sum of products, whose multiplies read no result of one another: each accumulator is the sum of all the addends, and
-- each result the clamp of the sum so far, as in law l4.
abbrev pub SumsOfMultiplies : Type 0
SumsOfMultiplies = (ms : List Term) (s : State) → IsFile s.vectors → s.npc ≡ address_after s.pc → independent ms ≡ true → is_sum ms ≡ true
    → ran_through (map instruction ms) s ≡ summed ms s
