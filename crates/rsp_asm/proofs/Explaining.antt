-- The operand for which a line is refused: what one turn of the loop over its operands adds, and what doesn't depend on how the code has labels and forms.
use Rattle.std.proofs.Common.{◌≡◌, refl, sym, ap, ◌∙◌, ℕ, zero, suc, ◌+◌, ◌-◌, ◌<◌, ◌≤◌, List, [], ◌∷◌, length, Bool, true, false, arith}
use Rattle.std.specs.Prelude.{Option, Some, None, option_map, is_none, if◌then◌else◌, Result, Ok, Err, slice_index_or}
use Rattle.std.specs.List.{list_all, before_first, after_first}
use Rattle.std.specs.Option.{option_or}
use Rattle.std.specs.Result.{is_err}
use Rattle.std.proofs.lemmas.Bool.{and_parts}
use Rattle.rsp_decode.specs.Table.{Operand, Entry, is_row_operand}
use Rattle.rsp_syntax.specs.declared.fault.AsmFault.{AsmFault}
use Rattle.rsp_syntax.specs.declared.fault.AsmFaultKind.{AsmFaultKind}
use Rattle.rsp_syntax.specs.declared.line_bytes.Boundary.TheVariants.{Blank}
use Rattle.rsp_syntax.specs.declared.operand_range.OperandRange.TheVariants.{Word}
use Rattle.rsp_syntax.specs.Cuts.{is_boundary}
use Rattle.rsp_syntax.specs.Numbers.{Expression, expression_of}
use Rattle.rsp_syntax.specs.Statement.{Labels, OperandValue, ranged_value, read, then_registers, Form, no_operation, numbers_form, row_form, form_named, operand_texts}
use Rattle.rsp_syntax.specs.OperandResults.{word_value}
use Rattle.rsp_syntax.specs.SourceLine.{LineParts, split_line}
use Rattle.rsp_syntax.specs.SourceText.{line_at, all_labels, fault_before, words_before}
use Rattle.rsp_operands.specs.Labels.{SameAddresses}
use Rattle.rsp_asm.specs.declared.explanation.Expected.{Expected}
use Rattle.rsp_asm.specs.declared.explanation.Expected.TheVariants.{Kind, Number, Nothing}
use Rattle.rsp_asm.specs.declared.explanation.FaultyOperand.{FaultyOperand}
use Rattle.rsp_asm.specs.Forms.{Shape, nothing_shape, numbers_shape, row_shape, form_shape}
use Rattle.rsp_asm.specs.Explanations.{kind_at, expected, is_required, is_error, is_refused, is_yes, verdict, operand, unread, refused, faulty_in_form, faulty_in_parts, faulty_in_line, is_of_operand, operand_of_fault, explained_words, explained, explanation, text_in_parts, operand_text, name_in_parts, statement_name}
use Rattle.rsp_asm.specs.FormOperands.{expected_in, IsUsable, AreUsable, faulty_in_shape}
use Rattle.rsp_asm.specs.OperandFaults.{fault_in_form, fault_in_parts, operand_fault, fault_in_shape}
use Rattle.rsp_asm.proofs.Decodes.{form_usable}
use Rattle.rsp_asm.proofs.Forms.{is_row}
use Rattle.rsp_asm.proofs.SameAddresses.{fields_same, words_same}

module _ (labels : Option Labels) (takes : ℕ → Expected) where
  -- the operand that is found from operand i on, if this one is kept that is refused
  abbrev pub found : ℕ → Option FaultyOperand → List (List ℕ) → Option FaultyOperand
  found i kept ts = option_or (unread labels takes i ts) (option_or kept (refused labels takes i ts))

  module _ (i : ℕ) (kept : Option FaultyOperand) where
    abbrev here : FaultyOperand
    here = operand i (takes i)

    abbrev by_verdict : List (List ℕ) → Option Bool → Option FaultyOperand
    by_verdict ts v = option_or (if is_none v then Some here else unread labels takes (i + 1) ts) (option_or kept (if is_yes v then Some here else refused labels takes (i + 1) ts))

    pub at_unread : (t : List ℕ) (ts : List (List ℕ)) → verdict labels (takes i) t ≡ None → Some here ≡ found i kept (t ∷ ts)
    at_unread t ts e = ap (by_verdict ts) (sym e)

    absorbed : (o r : Option FaultyOperand) → option_or (option_or o (Some here)) r ≡ option_or o (Some here)
    absorbed None r = refl
    absorbed (Some x) r = refl

    pub at_refused : (t : List ℕ) (ts : List (List ℕ)) → verdict labels (takes i) t ≡ Some true → found (i + 1) (option_or kept (Some here)) ts ≡ found i kept (t ∷ ts)
    at_refused t ts e = ap (option_or (unread labels takes (i + 1) ts)) (absorbed kept (refused labels takes (i + 1) ts)) ∙ ap (by_verdict ts) (sym e)

    pub at_taken : (t : List ℕ) (ts : List (List ℕ)) → verdict labels (takes i) t ≡ Some false → found (i + 1) kept ts ≡ found i kept (t ∷ ts)
    at_taken t ts e = ap (by_verdict ts) (sym e)

    abbrev by_need : Bool → Option FaultyOperand
    by_need b = option_or (if b then Some here else None) (option_or kept None)

    pub at_missing : is_required (takes i) i ≡ true → Some here ≡ found i kept []
    at_missing e = ap by_need (sym e)

    alone : (o : Option FaultyOperand) → o ≡ option_or o None
    alone None = refl
    alone (Some x) = refl

    pub at_end : is_required (takes i) i ≡ false → kept ≡ found i kept []
    at_end e = alone kept ∙ ap by_need (sym e)

-- ---- one operand

kind_usable : (ks : List Operand) (i : ℕ) → list_all is_row_operand ks ≡ true → IsUsable (kind_at ks i)
kind_usable [] i e = tt
kind_usable (k ∷ ks) zero e = (and_parts (is_row_operand k) (list_all is_row_operand ks) e).0
kind_usable (k ∷ ks) (suc i) e = kind_usable ks i (and_parts (is_row_operand k) (list_all is_row_operand ks) e).1

-- each operand of a form can be put into a word
pub usable_at : (s : Shape) (i : ℕ) → AreUsable s → IsUsable (expected_in s i)
usable_at nothing_shape i u = tt
usable_at numbers_shape i u = tt
usable_at (row_shape e) i u = kind_usable e.operands i u

pub kind_there : (ks : List Operand) (i : ℕ) (k : Operand) → i < length ks → ((d : Operand) → slice_index_or ks i d ≡ k) → Kind k ≡ kind_at ks i
kind_there [] i k lt at = absurd (omega arith)
kind_there (x ∷ xs) zero k lt at = ap Kind (sym (at k))
kind_there (x ∷ xs) (suc i) k lt at = kind_there xs i k (omega arith) at

pub kind_past : (ks : List Operand) (i : ℕ) → length ks ≤ i → Nothing ≡ kind_at ks i
kind_past [] i le = refl
kind_past (x ∷ xs) zero le = absurd (omega arith)
kind_past (x ∷ xs) (suc i) le = kind_past xs i (omega arith)

-- a number of .word, once its word or its fault is known
pub number_refused : (labels : Labels) (o : Option Expression) (r : Result ℕ AsmFaultKind) → Some r ≡ option_map (word_value labels) o → Some (is_err r) ≡ option_map (λ e. is_refused (Some labels) (ranged_value Word [] e)) o
number_refused labels None r e = absurd cc
number_refused labels (Some x) r e = let same : r ≡ word_value labels x = cc in ap (λ v. Some (is_err v)) same ∙ ap Some (either (word_value labels x))
  where
    either : (v : Result ℕ AsmFaultKind) → is_err v ≡ is_error (then_registers [] v)
    either (Ok n) = refl
    either (Err kind) = refl

-- ---- labels with the same addresses

module _ (xs ys : Labels) (same : SameAddresses xs ys) where
  refused_same : (r : OperandValue) → is_refused (Some xs) r ≡ is_refused (Some ys) r
  refused_same r = ap is_error (fields_same xs ys same 0 r.registers r.value)

  value_same : (o : Option OperandValue) → option_map (is_refused (Some xs)) o ≡ option_map (is_refused (Some ys)) o
  value_same None = refl
  value_same (Some r) = ap Some (refused_same r)

  number_same : (o : Option Expression) → option_map (λ e. is_refused (Some xs) (ranged_value Word [] e)) o ≡ option_map (λ e. is_refused (Some ys) (ranged_value Word [] e)) o
  number_same None = refl
  number_same (Some e) = ap Some (refused_same (ranged_value Word [] e))

  verdict_same : (e : Expected) (t : List ℕ) → verdict (Some xs) e t ≡ verdict (Some ys) e t
  verdict_same (Kind k) t = value_same (read k t)
  verdict_same Number t = number_same (expression_of t)
  verdict_same Nothing t = refl

  unread_same : (takes : ℕ → Expected) (i : ℕ) (ts : List (List ℕ)) → unread (Some xs) takes i ts ≡ unread (Some ys) takes i ts
  unread_same takes i [] = refl
  unread_same takes i (t ∷ ts) =
      ap (λ v. if is_none v then Some (operand i (takes i)) else unread (Some xs) takes (i + 1) ts) (verdict_same (takes i) t)
      ∙ ap (λ o. if is_none (verdict (Some ys) (takes i) t) then Some (operand i (takes i)) else o) (unread_same takes (i + 1) ts)

  refused_from_same : (takes : ℕ → Expected) (i : ℕ) (ts : List (List ℕ)) → refused (Some xs) takes i ts ≡ refused (Some ys) takes i ts
  refused_from_same takes i [] = refl
  refused_from_same takes i (t ∷ ts) =
      ap (λ v. if is_yes v then Some (operand i (takes i)) else refused (Some xs) takes (i + 1) ts) (verdict_same (takes i) t)
      ∙ ap (λ o. if is_yes (verdict (Some ys) (takes i) t) then Some (operand i (takes i)) else o) (refused_from_same takes (i + 1) ts)

  form_same : (o : Option Form) (ts : List (List ℕ)) → faulty_in_form (Some xs) o ts ≡ faulty_in_form (Some ys) o ts
  form_same None ts = refl
  form_same (Some form) ts =
      ap (λ o. option_or o (refused (Some xs) (expected form) 0 ts)) (unread_same (expected form) 0 ts)
      ∙ ap (option_or (unread (Some ys) (expected form) 0 ts)) (refused_from_same (expected form) 0 ts)

  line_same : (line : List ℕ) → faulty_in_line (Some xs) line ≡ faulty_in_line (Some ys) line
  unfolding faulty_in_line
  line_same line = go (split_line line)
    where
      go : (o : Option LineParts) → faulty_in_parts (Some xs) o ≡ faulty_in_parts (Some ys) o
      go None = refl
      go (Some p) =
          let ts = operand_texts (after_first (is_boundary Blank) p.body) in
          form_same (form_named (before_first (is_boundary Blank) p.body) (length ts)) ts

  fault_same : (ls : List (List ℕ)) (fault : AsmFault) → operand_of_fault (Some xs) ls fault ≡ operand_of_fault (Some ys) ls fault
  fault_same ls fault = ap (λ o. if is_of_operand fault.kind then o else None) (line_same (line_at ls (fault.line - 1)))

-- ---- the line

-- the code's form of a name, and that of the definition
pub by_shape : (labels : Option Labels) (o : Option Form) (s : Shape) (ts : List (List ℕ)) → Some s ≡ option_map form_shape o → faulty_in_shape labels s ts ≡ faulty_in_form labels o ts
by_shape labels None s ts e = absurd cc
by_shape labels (Some form) s ts e = let same : s ≡ form_shape form = cc in ap (λ x. faulty_in_shape labels x ts) same ∙ by_form form
  where
    by_form : (form : Form) → faulty_in_shape labels (form_shape form) ts ≡ faulty_in_form labels (Some form) ts
    by_form no_operation = refl
    by_form numbers_form = refl
    by_form (row_form row) = refl

pub no_shape : (labels : Option Labels) (o : Option Form) (ts : List (List ℕ)) → None ≡ option_map form_shape o → None ≡ faulty_in_form labels o ts
no_shape labels None ts e = refl
no_shape labels (Some form) ts e = absurd cc

pub by_parts : (labels : Option Labels) (line : List ℕ) (o : Option LineParts) → o ≡ split_line line → faulty_in_parts labels o ≡ faulty_in_line labels line
unfolding faulty_in_line
by_parts labels line o e = ap (faulty_in_parts labels) e

-- the same of the fault of one operand
pub fault_by_shape : (o : Option Form) (s : Shape) (ts : List (List ℕ)) (i : ℕ) → Some s ≡ option_map form_shape o → fault_in_shape s ts i ≡ fault_in_form o ts i
fault_by_shape None s ts i e = absurd cc
fault_by_shape (Some form) s ts i e = let same : s ≡ form_shape form = cc in ap (λ x. fault_in_shape x ts i) same ∙ by_form form
  where
    by_form : (form : Form) → fault_in_shape (form_shape form) ts i ≡ fault_in_form (Some form) ts i
    by_form no_operation = refl
    by_form numbers_form = refl
    by_form (row_form row) = refl

pub fault_of_none : (o : Option Form) (ts : List (List ℕ)) (i : ℕ) → None ≡ option_map form_shape o → None ≡ fault_in_form o ts i
fault_of_none None ts i e = refl
fault_of_none (Some form) ts i e = absurd cc

pub fault_by_parts : (line : List ℕ) (i : ℕ) (o : Option LineParts) → o ≡ split_line line → fault_in_parts o i ≡ operand_fault line i
unfolding operand_fault
fault_by_parts line i o e = ap (λ x. fault_in_parts x i) e

pub text_by_parts : (line : List ℕ) (i : ℕ) (o : Option LineParts) → o ≡ split_line line → text_in_parts o i ≡ operand_text line i
unfolding operand_text
text_by_parts line i o e = ap (λ x. text_in_parts x i) e

pub name_by_parts : (line : List ℕ) (o : Option LineParts) → o ≡ split_line line → name_in_parts o ≡ statement_name line
unfolding statement_name
name_by_parts line o e = ap name_in_parts e

pub usable_form : (name : List ℕ) (count : ℕ) (s : Shape) → Some s ≡ option_map form_shape (form_named name count) → AreUsable s
usable_form name count nothing_shape e = tt
usable_form name count numbers_shape e = tt
usable_form name count (row_shape r) e =
    let found = is_row (form_named name count) r e in
    ap (λ (x : Entry). list_all is_row_operand x.operands) (sym found.2) ∙ (form_usable name count found.0 found.1).kinds

-- ---- the text

module _ (origin : ℕ) (ls : List (List ℕ)) where
  pub first_explained : (fault : AsmFault) → fault_before origin ls (length ls) ≡ Some fault → operand_of_fault None ls fault ≡ explanation origin ls
  unfolding explanation
  first_explained fault e = sym (ap (explained origin ls) e)

  module _ (labels : Labels) (clean : fault_before origin ls (length ls) ≡ None) (same : SameAddresses labels (all_labels origin ls)) where
    second : (found : Result (List ℕ) AsmFault) → words_before labels origin ls (length ls) ≡ found → explained_words (all_labels origin ls) ls found ≡ explanation origin ls
    unfolding explanation
    second found e =
        ap (explained_words (all_labels origin ls) ls) (sym e ∙ words_same labels (all_labels origin ls) same origin ls (length ls))
        ∙ sym (ap (explained origin ls) clean)

    pub none_explained : (words : List ℕ) → words_before labels origin ls (length ls) ≡ Ok words → None ≡ explanation origin ls
    none_explained words e = second (Ok words) e

    pub second_explained : (fault : AsmFault) → words_before labels origin ls (length ls) ≡ Err fault → operand_of_fault (Some labels) ls fault ≡ explanation origin ls
    second_explained fault e = fault_same labels (all_labels origin ls) same ls fault ∙ second (Err fault) e
