-- The table decodes the word of an instruction statement to its row and its fields.
use Rattle.std.proofs.Common.{◌≡◌, ◌⊎◌, refl, sym, ap, ◌∙◌, subst, ℕ, zero, suc, ◌<◌, List, [], ◌∷◌, length, get_or, Bool, true, false, ◌&&◌, bit_and, arith, inl, inr}
use Rattle.std.specs.Prelude.{◌==◌, find, Option, Some, None, option_map, IfOk, Result, Ok, Err, if◌then◌else◌, codes}
use Rattle.std.specs.List.{list_all, before_first, after_first}
use Rattle.std.specs.Str.{str_eq_ignore_ascii_case}
use Rattle.std.proofs.lemmas.Bool.{and_parts, cases_Bool, cond-true, cond-false, eqb-true, eq-eqb}
use Rattle.rsp_decode.specs.declared.inst.Inst.TheVariants.{JumpLinkRegister}
use Rattle.rsp_decode.specs.Table.{Row, rows, row_of, row_bit_fields, fits, fields, word_from, inst_of, canonical_of, FitBitFields, is_row_operand}
use Rattle.rsp_decode.proofs.OneRow.{one_row}
use Rattle.rsp_decode.proofs.BitFields.{apart_from, all_apart, under_others, fields_back, clear_from}
use Rattle.rsp_decode.proofs.WordOfInstruction.{round_trip, word_of_is_canonical}
use Rattle.rsp_syntax.specs.declared.fault.AsmFaultKind.{AsmFaultKind}
use Rattle.rsp_syntax.specs.declared.line_bytes.Boundary.TheVariants.{Blank}
use Rattle.rsp_syntax.specs.Cuts.{is_boundary}
use Rattle.rsp_decode.specs.Table.{is_row_operand}
use Rattle.rsp_syntax.specs.Statement.{Labels, OperandValue, nothing, numbers, instruction, Form, no_operation, numbers_form, row_form, row_named, linking_row, form_named, read_all, read_numbers, with_operands, with_form, operand_texts, all_fields, one_word, words_of}
use Rattle.rsp_asm.specs.Decoding.{Decodes, StatementsDecode}
use Rattle.rsp_asm.proofs.Fits.{AllFit, all_fit}

-- ---- the rows of the table

-- the value is under the mask, the places are apart from the mask and from each other, and the operands are of the fourteen kinds
abbrev ready : Row → Bool
ready r =
    (bit_and r.value r.mask == r.value) && ((apart_from r.mask (row_bit_fields r) && all_apart (row_bit_fields r)) && list_all is_row_operand r.operands)

rows_ready : list_all ready rows ≡ true
rows_ready = refl

-- a row that a search finds is in the list
found_at : (p t : Row → Bool) (rs : List Row) (r : Row) → list_all t rs ≡ true → find p rs ≡ Some r → (i : ℕ) × (i < length rs) × (get_or rs i r ≡ r) × (t r ≡ true)
found_at p t [] r all e = absurd cc
found_at p t (x ∷ xs) r all e =
    let both = and_parts (t x) (list_all t xs) all in
    elim (cases_Bool (p x)) [
      | inl y ↦
          let same : x ≡ r = let s : Some x ≡ Some r = sym (cond-true (p x) (Some x) (find p xs) y) ∙ e in cc in
          (0, omega arith, same, subst (λ z. t z ≡ true) same both.0)
      | inr n ↦
          let k = found_at p t xs r both.1 (sym (cond-false (p x) (Some x) (find p xs) n) ∙ e) in
          (suc k.0, omega (arith, k.1), k.2, k.3)
    ]

not_true : (b : Bool) → (b ≡ true → ⊥) → b ≡ false
not_true true h = absurd (h refl)
not_true false h = refl

-- a row that passes after none before it is found
find_first : (t : Row → Bool) (rs : List Row) (i : ℕ) (d : Row) → i < length rs → t (get_or rs i d) ≡ true → ((j : ℕ) → j < i → t (get_or rs j d) ≡ true → ⊥) → find t rs ≡ Some (get_or rs i d)
find_first t [] i d lt e none = absurd (omega arith)
find_first t (x ∷ xs) zero d lt e none = cond-true (t x) (Some x) (find t xs) e
find_first t (x ∷ xs) (suc i) d lt e none =
    cond-false (t x) (Some x) (find t xs) (not_true (t x) (none 0 (omega arith)))
    ∙ find_first t xs i d (omega arith) e (λ j l. none (suc j) (omega arith))

module _ (r : Row) (i : ℕ) (inside : i < length rows) (is : get_or rows i r ≡ r) (good : ready r ≡ true) (vs : List ℕ) (fit : FitBitFields (row_bit_fields r) vs) where
  word_fits : fits (word_from r vs) r ≡ true
  word_fits =
      let tests = and_parts _ _ good in
      let apart = and_parts _ _ (and_parts _ _ tests.1).0 in
      eq-eqb _ _ (under_others (row_bit_fields r) vs r.value r.mask fit apart.0 ∙ eqb-true _ _ tests.0)

  word_row : row_of (word_from r vs) ≡ Some r
  unfolding row_of
  word_row =
      let here : fits (word_from r vs) (get_or rows i r) ≡ true = ap (fits (word_from r vs)) is ∙ word_fits in
      find_first (fits (word_from r vs)) rows i r inside here (λ j lt e. one_row (word_from r vs) j i r lt inside e here) ∙ ap Some is

  word_fields : fields r (word_from r vs) ≡ vs
  word_fields =
      let tests = and_parts _ _ good in
      let apart = and_parts _ _ (and_parts _ _ tests.1).0 in
      fields_back (row_bit_fields r) vs r.value fit apart.1 (clear_from r.mask r.value (row_bit_fields r) (eqb-true _ _ tests.0) apart.0)

  word_meaning : inst_of (word_from r vs) ≡ Some (r.inst vs)
  unfolding inst_of
  word_meaning = ap (option_map (λ (s : Row). s.inst (fields s (word_from r vs)))) word_row ∙ ap (λ f. Some (r.inst f)) word_fields

  word_canonical : canonical_of (word_from r vs) ≡ Some (word_from r vs)
  unfolding canonical_of
  word_canonical = ap (option_map (λ (s : Row). word_from s (fields s (word_from r vs)))) word_row ∙ ap (λ f. Some (word_from r f)) word_fields

-- what a row's word with these fields is
record Word (r : Row) (vs : List ℕ) : Type 0 where
  meaning : inst_of (word_from r vs) ≡ Some (r.inst vs)
  canonical : canonical_of (word_from r vs) ≡ Some (word_from r vs)

-- the rows that statements have: their operands are of the fourteen kinds, and the table decodes their words
pub record Usable (r : Row) : Type 0 where
  pub kinds : list_all is_row_operand r.operands ≡ true
  words : (vs : List ℕ) → FitBitFields (row_bit_fields r) vs → Word r vs

named_usable : (name : List ℕ) (r : Row) → row_named name ≡ Some r → Usable r
unfolding row_named
named_usable name r e =
    let k = found_at (λ (r : Row). str_eq_ignore_ascii_case name r.name) ready rows r rows_ready e in
    record {
      kinds = (and_parts _ _ (and_parts _ _ k.3).1).1;
      words = λ vs fit. record { meaning = word_meaning r k.0 k.1 k.2 k.3 vs fit; canonical = word_canonical r k.0 k.1 k.2 k.3 vs fit };
    }

linking_words : (vs : List ℕ) → FitBitFields (row_bit_fields linking_row) vs → Word linking_row vs
linking_words [] fit = absurd fit
linking_words (s ∷ []) fit =
    record {
      meaning = round_trip (JumpLinkRegister 31 s) (omega arith, (fit.0, tt));
      canonical = word_of_is_canonical (JumpLinkRegister 31 s) (omega arith, (fit.0, tt));
    }
linking_words (s ∷ t ∷ vs) fit = absurd fit.1

linking_usable : Usable linking_row
linking_usable = record { kinds = refl; words = linking_words }

-- ---- the statement

choose : (a b c : Bool) (o : Option Row) (row : Row) → (if a then Some no_operation else (if b then Some numbers_form else (if c then Some (row_form linking_row) else option_map row_form o))) ≡ Some (row_form row) → (o ≡ Some row) ⊎ (row ≡ linking_row)
choose true b c o row e = absurd cc
choose false true c o row e = absurd cc
choose false false true o row e = let same : linking_row ≡ row = cc in inr (sym same)
choose false false false None row e = absurd cc
choose false false false (Some r) row e = let same : r ≡ row = cc in inl (ap Some same)

pub form_usable : (name : List ℕ) (count : ℕ) (row : Row) → form_named name count ≡ Some (row_form row) → Usable row
form_usable name count row e =
    elim (choose (str_eq_ignore_ascii_case name (codes "nop")) (str_eq_ignore_ascii_case name (codes ".word")) (str_eq_ignore_ascii_case name (codes "jalr") && count == 1) (row_named name) row e) [
      | inl named ↦ named_usable name row named
      | inr linking ↦ subst Usable (sym linking) linking_usable
    ]

-- the form and the operands of an instruction
record Read (o : Option Form) (ts : List (List ℕ)) (row : Row) (rs : List OperandValue) : Type 0 where
  form : o ≡ Some (row_form row)
  operands : read_all row.operands ts ≡ Some rs

read_row : (r row : Row) (ts : List (List ℕ)) (rs : List OperandValue) → with_operands (option_map (instruction r) (read_all r.operands ts)) ≡ Ok (instruction row rs) → Read (Some (row_form r)) ts row rs
read_row r row ts rs e = go (read_all r.operands ts) refl e
  where
    go : (o : Option (List OperandValue)) → read_all r.operands ts ≡ o → with_operands (option_map (instruction r) o) ≡ Ok (instruction row rs) → Read (Some (row_form r)) ts row rs
    go None is e = absurd cc
    go (Some found) is e =
        let same : r ≡ row = cc in
        let all : found ≡ rs = cc in
        record {
          form = ap (λ x. Some (row_form x)) same;
          operands = subst (λ (x : Row). read_all x.operands ts ≡ Some rs) same (is ∙ ap Some all);
        }

no_numbers : (o : Option (List OperandValue)) (row : Row) (rs : List OperandValue) → with_operands (option_map numbers o) ≡ Ok (instruction row rs) → ⊥
no_numbers None row rs e = absurd cc
no_numbers (Some found) row rs e = absurd cc

read_form : (o : Option Form) (ts : List (List ℕ)) (row : Row) (rs : List OperandValue) → with_form o ts ≡ Ok (instruction row rs) → Read o ts row rs
read_form None ts row rs e = absurd cc
read_form (Some no_operation) [] row rs e = absurd cc
read_form (Some no_operation) (t ∷ ts) row rs e = absurd cc
read_form (Some numbers_form) [] row rs e = absurd cc
read_form (Some numbers_form) (t ∷ ts) row rs e = absurd (no_numbers (read_numbers (t ∷ ts)) row rs e)
read_form (Some (row_form r)) ts row rs e = read_row r row ts rs e

-- the words of a usable row's operands
module _ (labels : Labels) (address : ℕ) (row : Row) (rs : List OperandValue) (words : List ℕ) (usable : Usable row) where
  decoded : (f : Result (List ℕ) AsmFaultKind) → all_fields labels address rs ≡ f → IfOk f (FitBitFields (row_bit_fields row)) → one_word row f ≡ Ok words → Decodes labels address row rs words
  decoded (Err kind) is fit e = absurd cc
  decoded (Ok vs) is fit e =
      let same : word_from row vs ∷ [] ≡ words = cc in
      let w = usable.words vs fit in
      record { fields = vs; word = word_from row vs; values = is; one = sym same; meaning = w.meaning; canonical = w.canonical }

  from_form : (ts : List (List ℕ)) → read_all row.operands ts ≡ Some rs → words_of labels address (instruction row rs) ≡ Ok words → Decodes labels address row rs words
  from_form ts is e =
      decoded (all_fields labels address rs) refl (subst (AllFit labels address row.operands) is (all_fit labels address row.operands ts usable.kinds)) e

pub statements_decode : StatementsDecode
statements_decode labels address text row rs words said gives = go (length text == 0) said
  where
    name : List ℕ
    name = before_first (is_boundary Blank) text

    ts : List (List ℕ)
    ts = operand_texts (after_first (is_boundary Blank) text)

    go : (b : Bool) → (if b then Ok nothing else with_form (form_named name (length ts)) ts) ≡ Ok (instruction row rs) → Decodes labels address row rs words
    go true e = absurd cc
    go false e =
        let found = read_form (form_named name (length ts)) ts row rs e in
        from_form labels address row rs words (form_usable name (length ts) row found.form) ts found.operands gives
