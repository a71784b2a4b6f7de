-- The words of a block, by its lines.
use Rattle.std.proofs.Common.{◌≡◌, refl, sym, ap, ◌∙◌, subst, ℕ, zero, suc, ◌+◌, ◌*◌, ◌<◌, ◌≤◌, List, [], ◌∷◌, ◌++◌, length, length-append, get_or, Bool, true, false, arith, inl, inr}
use Rattle.std.specs.Prelude.{◌==◌, Option, Some, None, Result, Ok, Err, option_map, if◌then◌else◌, ◌-◌}
use Rattle.std.specs.List.{before_first, after_first}
use Rattle.std.proofs.lemmas.Bool.{cases_lt}
use Rattle.std.proofs.lemmas.List.{get_or_append_left, get_or-append_right}
use Rattle.rsp_syntax.specs.declared.fault.AsmFault.{AsmFault}
use Rattle.rsp_syntax.specs.declared.fault.AsmFaultKind.{AsmFaultKind}
use Rattle.rsp_syntax.specs.declared.operand_range.OperandRange.TheVariants.{Word}
use Rattle.rsp_syntax.specs.declared.line_bytes.Boundary.TheVariants.{Blank}
use Rattle.rsp_syntax.specs.Cuts.{is_boundary}
use Rattle.rsp_syntax.specs.Numbers.{Expression}
use Rattle.rsp_syntax.specs.Statement.{Labels, OperandValue, ranged_value, zero_expression, Statement, nothing, numbers, instruction, Form, no_operation, numbers_form, row_form, form_named, read_all, read_numbers, with_operands, with_form, operand_texts, statement_of, size, evaluate, field_of, then_registers, fields_of, append, all_fields, words_of}
use Rattle.rsp_syntax.specs.SourceLine.{LineParts, split_line, statement_size, parts_size, line_size, statement_words, parts_words, line_words}
use Rattle.rsp_syntax.specs.SourceText.{line_at, address_of_line, all_labels, words_of_line, fault_before, and_words, words_before, unless}
use Rattle.rsp_asm.specs.Decoding.{Decodes, IsWord, IsWordOfLine, BlocksDecode}
use Rattle.rsp_asm.proofs.OperandValues.{numbers_parts}
use Rattle.rsp_asm.proofs.Decodes.{statements_decode}

-- ---- the numbers of .word

-- each of these readings is a number
abbrev AreNumbers : List OperandValue → Type 0
AreNumbers [] = Unit {0}
AreNumbers (r ∷ rs) = (e : Expression) × (ranged_value Word [] e ≡ r) × AreNumbers rs

are_numbers : (ts : List (List ℕ)) (rs : List OperandValue) → read_numbers ts ≡ Some rs → AreNumbers rs
are_numbers [] rs e = let none : [] ≡ rs = cc in subst AreNumbers none tt
are_numbers (t ∷ ts) rs e =
    let p = numbers_parts t ts rs e in
    subst AreNumbers p.4 (p.0, refl, are_numbers ts p.1 p.3)

append_ok : (x y : Result (List ℕ) AsmFaultKind) (ws : List ℕ) → append x y ≡ Ok ws → (vs : List ℕ) × (more : List ℕ) × (x ≡ Ok vs) × (y ≡ Ok more) × (vs ++ more ≡ ws)
append_ok (Err kind) y ws e = absurd cc
append_ok (Ok vs) (Err kind) ws e = absurd cc
append_ok (Ok vs) (Ok more) ws e = let same : vs ++ more ≡ ws = cc in (vs, more, refl, refl, same)

one_value : (x : Result ℕ AsmFaultKind) (vs : List ℕ) → then_registers [] x ≡ Ok vs → (v : ℕ) × (v ∷ [] ≡ vs)
one_value (Ok v) vs e = let same : v ∷ [] ≡ vs = cc in (v, same)
one_value (Err kind) vs e = absurd cc

module _ (labels : Labels) (address : ℕ) where
  -- word i is the number of reading i
  abbrev Each : List OperandValue → List ℕ → Type 0
  Each rs ws = (i : ℕ) (d : OperandValue) → i < length rs → fields_of labels address (get_or rs i d) ≡ Ok (get_or ws i 0 ∷ [])

  one_more : (r : OperandValue) (rs : List OperandValue) (v : ℕ) (ws : List ℕ) → fields_of labels address r ≡ Ok (v ∷ []) → Each rs ws → Each (r ∷ rs) (v ∷ ws)
  one_more r rs v ws e each zero d lt = e
  one_more r rs v ws e each (suc i) d lt = each i d (omega arith)

  numbers_each : (rs : List OperandValue) (ws : List ℕ) → AreNumbers rs → all_fields labels address rs ≡ Ok ws → (length ws ≡ length rs) × Each rs ws
  numbers_each [] ws h e = let none : [] ≡ ws = cc in (sym (ap length none), λ i d lt. absurd (omega arith))
  numbers_each (r ∷ rs) ws h e =
      let p = append_ok (fields_of labels address r) (all_fields labels address rs) ws e in
      let one = one_value (field_of Word address (evaluate labels h.0)) p.0 (ap (fields_of labels address) h.1 ∙ p.2) in
      let rest = numbers_each rs p.1 h.2 p.3 in
      let whole : one.0 ∷ p.1 ≡ ws = ap (λ t. t ++ p.1) one.1 ∙ p.4 in
      let count = rest.0 in (
        omega (arith, ap length whole, count),
        subst (Each (r ∷ rs)) whole (one_more r rs one.0 p.1 (p.2 ∙ ap Ok (sym one.1)) rest.1),
      )

-- ---- the words of a statement

number_form : (o : Option Form) (ts : List (List ℕ)) (rs : List OperandValue) → with_form o ts ≡ Ok (numbers rs) → AreNumbers rs
number_form None ts rs e = absurd cc
number_form (Some no_operation) [] rs e = let same : ranged_value Word [] zero_expression ∷ [] ≡ rs = cc in subst AreNumbers same (zero_expression, refl, tt)
number_form (Some no_operation) (t ∷ ts) rs e = absurd cc
number_form (Some numbers_form) [] rs e = absurd cc
number_form (Some numbers_form) (t ∷ ts) rs e = go (read_numbers (t ∷ ts)) refl e
  where
    go : (o : Option (List OperandValue)) → read_numbers (t ∷ ts) ≡ o → with_operands (option_map numbers o) ≡ Ok (numbers rs) → AreNumbers rs
    go None is e = absurd cc
    go (Some found) is e = let same : found ≡ rs = cc in are_numbers (t ∷ ts) rs (is ∙ ap Some same)
number_form (Some (row_form r)) ts rs e = go (read_all r.operands ts) e
  where
    go : (o : Option (List OperandValue)) → with_operands (option_map (instruction r) o) ≡ Ok (numbers rs) → AreNumbers rs
    go None e = absurd cc
    go (Some found) e = absurd cc

number_statement : (text : List ℕ) (rs : List OperandValue) → statement_of text ≡ Ok (numbers rs) → AreNumbers rs
number_statement text rs e = go (length text == 0) e
  where
    name : List ℕ
    name = before_first (is_boundary Blank) text

    ts : List (List ℕ)
    ts = operand_texts (after_first (is_boundary Blank) text)

    go : (b : Bool) → (if b then Ok nothing else with_form (form_named name (length ts)) ts) ≡ Ok (numbers rs) → AreNumbers rs
    go true e = absurd cc
    go false e = number_form (form_named name (length ts)) ts rs e

-- so many words, each of which is the statement's
record AreWords (labels : Labels) (address : ℕ) (s : Statement) (ws : List ℕ) : Type 0 where
  count : length ws ≡ size s
  each : (i : ℕ) → i < length ws → IsWord labels address s i (get_or ws i 0)

module _ (labels : Labels) (address : ℕ) (text : List ℕ) (ws : List ℕ) where
  row_words : (s : Statement) → length ws ≡ 1 → IsWord labels address s 0 (get_or ws 0 0) → size s ≡ 1 → AreWords labels address s ws
  row_words s one word sized = record {
    count = one ∙ sym sized;
    each = λ i lt. let first : 0 ≡ i = omega (arith, one) in subst (λ n. IsWord labels address s n (get_or ws n 0)) first word;
  }

  are_words : (s : Statement) → statement_of text ≡ Ok s → words_of labels address s ≡ Ok ws → AreWords labels address s ws
  are_words nothing said e =
      let none : [] ≡ ws = cc in
      let count : 0 ≡ length ws = ap length none in
      record { count = sym count; each = λ i lt. absurd (omega (arith, count)) }
  are_words (numbers rs) said e =
      let p = numbers_each labels address rs ws (number_statement text rs said) e in
      let count = p.0 in
      record { count = count; each = λ i lt. let inside : i < length rs = omega (arith, count) in (inside, λ d. p.1 i d inside) }
  are_words (instruction row rs) said e =
      let d = statements_decode labels address text row rs ws said e in
      let whole : ws ≡ get_or ws 0 0 ∷ [] = d.one ∙ ap (λ t. get_or t 0 0 ∷ []) (sym d.one) in
      row_words (instruction row rs) (ap length d.one) (refl, subst (Decodes labels address row rs) whole d) refl

-- ---- the words of a line

record LineWords (labels : Labels) (address : ℕ) (l : List ℕ) (ws : List ℕ) : Type 0 where
  parts : LineParts
  is_line : split_line l ≡ Some parts
  statement : Statement
  says : statement_of parts.body ≡ Ok statement
  count : length ws ≡ line_size l
  each : (i : ℕ) → i < length ws → IsWord labels address statement i (get_or ws i 0)

line_gives : (labels : Labels) (address : ℕ) (l : List ℕ) (ws : List ℕ) → line_words labels address l ≡ Ok ws → LineWords labels address l ws
unfolding line_words line_size
line_gives labels address l ws e = go (split_line l) refl e
  where
    said : (p : LineParts) → split_line l ≡ Some p → (r : Result Statement AsmFaultKind) → statement_of p.body ≡ r → statement_words labels address r ≡ Ok ws → LineWords labels address l ws
    said p is (Err kind) says e = absurd cc
    said p is (Ok s) says e =
        let words = are_words labels address p.body ws s says e in
        record {
          parts = p;
          is_line = is;
          statement = s;
          says = says;
          count = words.count ∙ sym (ap parts_size is ∙ ap statement_size says);
          each = words.each;
        }

    go : (o : Option LineParts) → split_line l ≡ o → parts_words labels address o ≡ Ok ws → LineWords labels address l ws
    go None is e = absurd cc
    go (Some p) is e = said p is (statement_of p.body) refl e

-- ---- the words of a block

words_ok : (x : Result (List ℕ) AsmFault) (n : ℕ) (y : Result (List ℕ) AsmFaultKind) (ws : List ℕ) → and_words x n y ≡ Ok ws → (before : List ℕ) × (more : List ℕ) × (x ≡ Ok before) × (y ≡ Ok more) × (before ++ more ≡ ws)
words_ok (Err fault) n y ws e = absurd cc
words_ok (Ok before) n (Err kind) ws e = absurd cc
words_ok (Ok before) n (Ok more) ws e = let same : before ++ more ≡ ws = cc in (before, more, refl, refl, same)

module _ (labels : Labels) (origin : ℕ) (ls : List (List ℕ)) where
  block_address : (n : ℕ) (ws : List ℕ) → words_before labels origin ls n ≡ Ok ws → origin + 4 * length ws ≡ address_of_line origin ls n
  block_address zero ws e = let none : [] ≡ ws = cc in omega (arith, ap length none)
  block_address (suc n) ws e =
      let p = words_ok (words_before labels origin ls n) (suc n) (words_of_line labels origin ls n) ws e in
      let here = block_address n p.0 p.2 in
      let words = line_gives labels (address_of_line origin ls n) (line_at ls n) p.1 p.3 in
      let count = words.count in
      omega (arith, here, count, ap length p.4, length-append p.0 p.1)

  block_each : (n : ℕ) (ws : List ℕ) → n ≤ length ls → words_before labels origin ls n ≡ Ok ws → (j : ℕ) → j < length ws → IsWordOfLine labels origin ls j (get_or ws j 0)
  block_each zero ws le e j lt = let none : [] ≡ ws = cc in absurd (omega (arith, ap length none))
  block_each (suc n) ws le e j lt =
      let p = words_ok (words_before labels origin ls n) (suc n) (words_of_line labels origin ls n) ws e in
      elim (cases_lt j (length p.0)) [
        | inl before ↦
            let same : get_or p.0 j 0 ≡ get_or ws j 0 = sym (get_or_append_left p.0 p.1 0 j before) ∙ ap (λ t. get_or t j 0) p.4 in
            subst (IsWordOfLine labels origin ls j) same (block_each n p.0 (omega arith) p.2 j before)
        | inr behind ↦
            let same : get_or p.1 (j - length p.0) 0 ≡ get_or ws j 0 = sym (get_or-append_right p.0 p.1 (length p.0) j 0 refl behind) ∙ ap (λ t. get_or t j 0) p.4 in
            let words = line_gives labels (address_of_line origin ls n) (line_at ls n) p.1 p.3 in
            let here = block_address n p.0 p.2 in
            record {
              k = n;
              i = j - length p.0;
              inside = omega arith;
              address = omega (arith, here, behind);
              parts = words.parts;
              is_line = words.is_line;
              statement = words.statement;
              says = words.says;
              meaning =
                  subst (IsWord labels (address_of_line origin ls n) words.statement (j - length p.0)) same
                  (words.each (j - length p.0) (omega (arith, lt, behind, ap length p.4, length-append p.0 p.1)));
            }
      ]

pub blocks_decode : BlocksDecode
blocks_decode ls origin words e =
    let said = go (fault_before origin ls (length ls)) e in
    record { each = block_each (all_labels origin ls) origin ls (length ls) words (omega arith) said; no_more = block_address (all_labels origin ls) origin ls (length ls) words said }
  where
    go : (o : Option AsmFault) → unless o (words_before (all_labels origin ls) origin ls (length ls)) ≡ Ok words → words_before (all_labels origin ls) origin ls (length ls) ≡ Ok words
    go None e = e
    go (Some fault) e = absurd cc
