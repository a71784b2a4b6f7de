-- Sums of products.
use Rattle.std.proofs.Common.{◌≡◌, ◌≢◌, ℕ, List, [], ◌∷◌, length, map, refl, ap, ◌∙◌, arith, true, not, nat_eq, ◌<◌, All, ℤ}
use Rattle.std.proofs.lemmas.Bool.{not-true, ltb-true}
use Rattle.std.specs.List.{list_all}
use Rattle.std.proofs.lemmas.Bool.{and_parts}
use Rattle.std.proofs.lemmas.Bool.Decides.{nat_tests}
use Rattle.std.proofs.lemmas.List.{get_or-set_same, get_or-set_other}
use Rattle.rsp_scalar.specs.Flow.{address_after}
use Rattle.rsp_loadstore.specs.File.{vector, with_vector}
use Rattle.rsp_multiply.specs.Laws.{MultiplyInstruction, IsMultiplyInstruction, SumsOfProducts, after, results, sum_of}
use Rattle.rsp_multiply.specs.MultiplyRules.{multiply_results}
use Rattle.rsp_machine.specs.State.{State}
use Rattle.rsp_machine.specs.Step.{executed, instruction_effect}
use Rattle.rsp_machine.specs.Vector.{multiplies}
use Rattle.rsp_microcode.specs.Runs.{ran_through, address_after_words}
use Rattle.rsp_multiply.specs.MultiplyRules.{multiply_rule}
use Rattle.rsp_numbers.specs.Numbers.{s48}
use Rattle.rsp_lanes.specs.Lanes.{each_lane}
use Rattle.std.proofs.lemmas.List.Elements.{All-nil, All-cons}
use Rattle.rsp_loadstore.specs.File.{IsFile}
use Rattle.rsp_microcode.specs.Reads.{after_writes}
use Rattle.rsp_microcode.specs.Multiplies.{Term, instruction, step_in, reads_other, independent, writes, multiplied, adds, has_fields, is_sum, summed, SumsOfMultiplies}

-- a register that was written, and another one
pub read_same : (file : List (List ℕ)) (n : ℕ) (v : List ℕ) → n < length file → vector (with_vector file n v) n ≡ v
unfolding vector with_vector
read_same file n v h = get_or-set_same file n v [] h

pub read_other : (file : List (List ℕ)) (n k : ℕ) (v : List ℕ) → k ≢ n → vector (with_vector file n v) k ≡ vector file k
unfolding vector with_vector
read_other file n k v h = get_or-set_other file n k v [] h

apart : (a b : ℕ) → not (nat_eq a b) ≡ true → b ≢ a
apart a b h = grind (arith, nat_tests)

same_step : (file : List (List ℕ)) (vd : ℕ) (v : List ℕ) (m : Term) → reads_other vd m ≡ true → step_in (with_vector file vd v) m ≡ step_in file m
same_step file vd v m h =
    let both = and_parts _ _ h in
    rw (read_other file vd m.fields.vs v (apart _ _ both.0), read_other file vd m.fields.vt v (apart _ _ both.1)) refl

same_steps : (file : List (List ℕ)) (vd : ℕ) (v : List ℕ) (ms : List Term) → list_all (reads_other vd) ms ≡ true → map (step_in (with_vector file vd v)) ms ≡ map (step_in file) ms
same_steps file vd v [] h = refl
same_steps file vd v (m ∷ ms) h =
    let both = and_parts _ _ h in
    rw (same_step file vd v m both.0, same_steps file vd v ms both.1) refl

abbrev with_steps : List Term → State → List MultiplyInstruction → State
with_steps ms s steps = record s {
  pc = address_after_words ms s.pc;
  npc = address_after_words ms s.npc;
  accumulators = after steps s.accumulators;
  vectors = after_writes with_vector (writes ms (results steps s.accumulators)) s.vectors;
}

pub run : (ms : List Term) (s : State) → independent ms ≡ true → s.npc ≡ address_after s.pc → ran_through (map instruction ms) s ≡ multiplied ms s
unfolding executed instruction_effect multiplies
run [] s h e = refl
run (m ∷ ms) s h e =
    let both = and_parts _ _ h in
    let t = executed (instruction m) s in
    run ms t both.1 refl
    ∙ ap (with_steps ms t) (same_steps s.vectors m.fields.vd (multiply_results (step_in [] m).op t.accumulators) ms both.0)
    ∙ ap (λ (n : ℕ). let u : State = record s {
      pc = address_after_words ms n;
      npc = address_after_words (m ∷ ms) s.npc;
      accumulators = after (map (step_in s.vectors) (m ∷ ms)) s.accumulators;
      vectors = after_writes with_vector (writes (m ∷ ms) (results (map (step_in s.vectors) (m ∷ ms)) s.accumulators)) s.vectors;
    } in u) e

step_fits : (file : List (List ℕ)) (m : Term) → IsFile file → has_fields m ≡ true → IsMultiplyInstruction (step_in file m)
step_fits file m is h =
    let two = and_parts _ _ h in
    let both = and_parts _ _ two.0 in
    (is.registers m.fields.vs (ltb-true _ _ both.0), is.registers m.fields.vt (ltb-true _ _ both.1), ltb-true _ _ two.1)

abbrev Adds : MultiplyInstruction → Type 0
Adds s = (multiply_rule s.op).adds ≡ true

steps_fit : (file : List (List ℕ)) (ms : List Term) → IsFile file → list_all has_fields ms ≡ true → All IsMultiplyInstruction (map (step_in file) ms)
steps_fit file [] is h = All-nil IsMultiplyInstruction
steps_fit file (m ∷ ms) is h =
    let both = and_parts _ _ h in
    All-cons IsMultiplyInstruction _ _ (step_fits file m is both.0) (steps_fit file ms is both.1)

steps_add : (file : List (List ℕ)) (ms : List Term) → list_all adds ms ≡ true → All Adds (map (step_in file) ms)
steps_add file [] h = All-nil Adds
steps_add file (m ∷ ms) h =
    let both = and_parts _ _ h in
    All-cons Adds _ _ both.0 (steps_add file ms both.1)

abbrev with_results : List Term → State → List ℤ → List (List ℕ) → State
with_results ms s xs rs = record s {
  pc = address_after_words ms s.pc;
  npc = address_after_words ms s.npc;
  accumulators = xs;
  vectors = after_writes with_vector (writes ms rs) s.vectors;
}

sums_of_run : SumsOfProducts → (ms : List Term) (s : State) → IsFile s.vectors → is_sum ms ≡ true → multiplied ms s ≡ summed ms s
sums_of_run law [] s is h = cc
sums_of_run law (m ∷ ms) s is h =
    let two = and_parts _ _ h in
    let both = and_parts _ _ two.0 in
    let fit = and_parts _ _ two.1 in
    let r = law (step_in s.vectors m) (map (step_in s.vectors) ms) s.accumulators (step_fits s.vectors m is fit.0) (not-true _ both.0) (steps_fit s.vectors ms is fit.1) (steps_add s.vectors ms both.1) in
    ap (λ xs. with_results (m ∷ ms) s xs (results (map (step_in s.vectors) (m ∷ ms)) s.accumulators)) r.0
    ∙ ap (with_results (m ∷ ms) s (each_lane (λ i. s48 (sum_of (map (step_in s.vectors) (m ∷ ms)) i)))) r.1

pub sums : SumsOfProducts → SumsOfMultiplies
sums law ms s is next h k = run ms s h next ∙ sums_of_run law ms s is k
