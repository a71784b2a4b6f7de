-- How many fields the operands of a statement have.
use Rattle.std.proofs.Common.{◌≡◌, refl, sym, ap, ◌∙◌, ℕ, ◌+◌, List, [], ◌∷◌, ◌++◌, length, arith}
use Rattle.std.specs.Prelude.{Option, Some, None, option_map, option_and_then, Result, Ok, Err}
use Rattle.rsp_decode.specs.Table.{Operand, scalar, shift_amount, signed, unsigned, jump_target, branch_target, scalar_memory, vector_memory, sp_register, control_register, vector, vector_byte, vector_element, vector_lane, BitField, bit_fields, with_fields}
use Rattle.rsp_syntax.specs.declared.fault.AsmFaultKind.{AsmFaultKind}
use Rattle.rsp_syntax.specs.declared.operand_range.OperandRange.{OperandRange}
use Rattle.rsp_syntax.specs.declared.operand_range.OperandRange.TheVariants.{Half, Amount, Jump, Branch, Scaled, Word}
use Rattle.rsp_syntax.specs.declared.line_bytes.Boundary.TheVariants.{Parenthesis, Bracket}
use Rattle.rsp_syntax.specs.Cuts.{cut}
use Rattle.rsp_syntax.specs.Names.{scalar_named, vector_named, sp_named, control_named, element_named}
use Rattle.rsp_syntax.specs.Numbers.{Expression, expression_of}
use Rattle.rsp_syntax.specs.Statement.{Labels, OperandValue, one_register, pair, ranged_value, memory, memory_operand, with_element, bracket_of, bracketed, byte_named, lane_named, offset_of, base_of, read, read_numbers, fields_with, field_of, evaluate, then_registers}

-- how many fields a reading has
abbrev pub value_span : Option (OperandRange × Expression) → ℕ
value_span None = 0
value_span (Some v) = 1

abbrev pub span : OperandValue → ℕ
span r = value_span r.value + length r.registers

pub fields_span : (labels : Labels) (address : ℕ) (ns : List ℕ) (v : Option (OperandRange × Expression)) (vs : List ℕ) → fields_with labels address ns v ≡ Ok vs → length vs ≡ value_span v + length ns
fields_span labels address ns None vs e = let same : ns ≡ vs = cc in omega (arith, ap length same)
fields_span labels address ns (Some v) vs e = go (field_of v.0 address (evaluate labels v.1)) e
  where
    go : (o : Result ℕ AsmFaultKind) → then_registers ns o ≡ Ok vs → length vs ≡ 1 + length ns
    go (Ok x) e = let same : x ∷ ns ≡ vs = cc in omega (arith, ap length same)
    go (Err kind) e = absurd cc

module _ {A : Type 0} (f : A → OperandValue) (n : ℕ) (each : (a : A) → span (f a) ≡ n) (r : OperandValue) where
  from_map : (o : Option A) → option_map f o ≡ Some r → span r ≡ n
  from_map None e = absurd cc
  from_map (Some a) e = let same : f a ≡ r = cc in sym (ap span same) ∙ each a

memory_span : (range : OperandRange) (o : Option (List ℕ × List ℕ)) (r : OperandValue) → memory_operand range o ≡ Some r → span r ≡ 2
memory_span range None r e = absurd cc
memory_span range (Some p) r e = go (offset_of p.0) (base_of p.1) e
  where
    go : (x : Option Expression) (b : Option ℕ) → memory range x b ≡ Some r → span r ≡ 2
    go None b e = absurd cc
    go (Some x) None e = absurd cc
    go (Some x) (Some b) e = let same : ranged_value range (b ∷ []) x ≡ r = cc in sym (ap span same)

pair_span : (v e : Option ℕ) (r : OperandValue) → with_element v e ≡ Some r → span r ≡ 2
pair_span None e r h = absurd cc
pair_span (Some n) None r h = absurd cc
pair_span (Some n) (Some m) r h = let same : pair n m ≡ r = cc in sym (ap span same)

bracket_span : (look : List ℕ → Option ℕ) (default : Option ℕ) (o : Option (List ℕ × List ℕ)) (bs : List ℕ) (r : OperandValue) → bracket_of look default o bs ≡ Some r → span r ≡ 2
bracket_span look default None bs r e = pair_span (vector_named bs) default r e
bracket_span look default (Some p) bs r e = pair_span (vector_named p.0) (bracketed look p.1) r e

pub read_span : (k : Operand) (t : List ℕ) (r : OperandValue) → read k t ≡ Some r → span r ≡ length (bit_fields k)
read_span (scalar low) t r e = from_map one_register 1 (λ _. refl) r (scalar_named t) e
read_span shift_amount t r e = from_map (ranged_value Amount []) 1 (λ _. refl) r (expression_of t) e
read_span signed t r e = from_map (ranged_value Half []) 1 (λ _. refl) r (expression_of t) e
read_span unsigned t r e = from_map (ranged_value Half []) 1 (λ _. refl) r (expression_of t) e
read_span jump_target t r e = from_map (ranged_value Jump []) 1 (λ _. refl) r (expression_of t) e
read_span branch_target t r e = from_map (ranged_value Branch []) 1 (λ _. refl) r (expression_of t) e
read_span scalar_memory t r e = memory_span Half (cut Parenthesis t) r e
read_span (vector_memory scale) t r e = memory_span (Scaled scale) (cut Parenthesis t) r e
read_span sp_register t r e = from_map one_register 1 (λ _. refl) r (sp_named t) e
read_span control_register t r e = from_map one_register 1 (λ _. refl) r (control_named t) e
read_span (vector low) t r e = from_map one_register 1 (λ _. refl) r (vector_named t) e
read_span (vector_byte low elements) t r e = bracket_span (byte_named elements) (Some 0) (cut Bracket t) t r e
read_span vector_element t r e = bracket_span element_named (Some 0) (cut Bracket t) t r e
read_span vector_lane t r e = bracket_span lane_named None (cut Bracket t) t r e

pub with_fields_append : (ps qs : List BitField) (vs ws : List ℕ) (w : ℕ) → length vs ≡ length ps → with_fields w (ps ++ qs) (vs ++ ws) ≡ with_fields (with_fields w ps vs) qs ws
with_fields_append [] qs [] ws w e = refl
with_fields_append [] qs (v ∷ vs) ws w e = absurd (omega arith)
with_fields_append (p ∷ ps) qs [] ws w e = absurd (omega arith)
with_fields_append (p ∷ ps) qs (v ∷ vs) ws w e = with_fields_append ps qs vs ws _ (omega arith)

-- ---- the numbers of .word

pub numbers_parts : (t : List ℕ) (ts : List (List ℕ)) (rs : List OperandValue) → read_numbers (t ∷ ts) ≡ Some rs → (e : Expression) × (more : List OperandValue) × (expression_of t ≡ Some e) × (read_numbers ts ≡ Some more) × (ranged_value Word [] e ∷ more ≡ rs)
numbers_parts t ts rs e = go (expression_of t) (read_numbers ts) e
  where
    go : (o : Option Expression) (q : Option (List OperandValue)) → option_and_then (λ (e : Expression). option_map (λ (rs : List OperandValue). ranged_value Word [] e ∷ rs) q) o ≡ Some rs → (e : Expression) × (more : List OperandValue) × (o ≡ Some e) × (q ≡ Some more) × (ranged_value Word [] e ∷ more ≡ rs)
    go None q e = absurd cc
    go (Some x) None e = absurd cc
    go (Some x) (Some more) e = let same : ranged_value Word [] x ∷ more ≡ rs = cc in (x, more, refl, refl, same)

pub numbers_length : (ts : List (List ℕ)) (rs : List OperandValue) → read_numbers ts ≡ Some rs → length rs ≡ length ts
numbers_length [] rs e = let none : [] ≡ rs = cc in sym (ap length none)
numbers_length (t ∷ ts) rs e =
    let p = numbers_parts t ts rs e in
    let more = numbers_length ts p.1 p.3 in
    omega (arith, more, ap length p.4)
