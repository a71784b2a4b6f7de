-- No text means a fault of memory.
use Rattle.std.proofs.Common.{◌≡◌, ◌⊎◌, refl, subst, ap, ◌∙◌, ℕ, zero, suc, ◌+◌, ◌*◌, List, [], ◌∷◌, length, Bool, true, false, sym, inl, inr}
use Rattle.std.specs.Prelude.{Option, Some, None, Result, Ok, Err, ◌==◌, if◌then◌else◌, nat_lt, ℤ}
use Rattle.std.specs.List.{before_first, after_first}
use Rattle.rsp_syntax.specs.declared.fault.AsmFault.{AsmFault}
use Rattle.rsp_syntax.specs.declared.fault.AsmFaultKind.{AsmFaultKind}
use Rattle.rsp_syntax.specs.declared.fault.AsmFaultKind.TheVariants.{OutOfRange, PastEnd, LabelTwice, OutOfMemory}
use Rattle.rsp_syntax.specs.declared.operand_range.OperandRange.{OperandRange}
use Rattle.rsp_syntax.specs.declared.line_bytes.Boundary.TheVariants.{Blank}
use Rattle.rsp_syntax.specs.Cuts.{is_boundary}
use Rattle.rsp_syntax.specs.Numbers.{Expression}
use Rattle.rsp_syntax.specs.Statement.{Labels, OperandValue, Statement, nothing, numbers, instruction, Form, form_named, statement_of_form, with_operands, with_form, operand_texts, statement_of, size, field, evaluate, or_out_of_range, field_of, then_registers, fields_with, fields_of, append, all_fields, one_word}
use Rattle.rsp_syntax.specs.SourceLine.{LineParts, split_line, is_label_taken, has_bad_number, statement_fault, parts_fault, first_fault, statement_words, parts_words, line_words}
use Rattle.std.specs.Str.Lines.{lines}
use Rattle.std.proofs.lemmas.Bool.{false≢true}
use Rattle.rsp_asm.specs.AssembleFaults.{IsFault, IsOutOfMemory, HidesNoFault, NoTextMeansOutOfMemory}
use Rattle.rsp_syntax.specs.SourceText.{all_labels, fault_of_line, words_of_line, or_fault, fault_before, and_words, words_before, unless, meaning_of_lines}

-- a kind that a text can have
abbrev pub of_text : AsmFaultKind → Bool
of_text OutOfMemory = false
of_text kind = true

abbrev Fine : Option AsmFaultKind → Type 0
Fine None = Unit {0}
Fine (Some kind) = of_text kind ≡ true

abbrev FineResult : {T : Type 0} → Result T AsmFaultKind → Type 0
FineResult (Ok x) = Unit {0}
FineResult (Err kind) = of_text kind ≡ true

either : (b : Bool) (x y : Option AsmFaultKind) → Fine x → Fine y → Fine (if b then x else y)
either true x y p q = p
either false x y p q = q

either_result : {T : Type 0} (b : Bool) (x y : Result T AsmFaultKind) → FineResult x → FineResult y → FineResult (if b then x else y)
either_result true x y p q = p
either_result false x y p q = q

-- ---- a statement

read_fine : (o : Option Statement) → FineResult (with_operands o)
read_fine None = refl
read_fine (Some s) = tt

form_fine : (o : Option Form) (ts : List (List ℕ)) → FineResult (with_form o ts)
form_fine None ts = refl
form_fine (Some form) ts = read_fine (statement_of_form form ts)

statement_fine : (bs : List ℕ) → FineResult (statement_of bs)
statement_fine bs =
    either_result (length bs == 0) (Ok nothing) _ tt
    (form_fine (form_named (before_first (is_boundary Blank) bs) (length (operand_texts (after_first (is_boundary Blank) bs)))) (operand_texts (after_first (is_boundary Blank) bs)))

-- ---- the first pass

checked_fine : (address : ℕ) (r : Result Statement AsmFaultKind) → FineResult r → Fine (statement_fault address r)
checked_fine address (Err kind) h = h
checked_fine address (Ok s) h =
    either (has_bad_number address (Ok s)) (Some OutOfRange) _ refl (either (nat_lt 4096 (address + 4 * size s)) (Some PastEnd) None refl tt)

parts_fine : (labels : Labels) (address : ℕ) (o : Option LineParts) → Fine (parts_fault labels address o)
parts_fine labels address None = refl
parts_fine labels address (Some p) =
    either (is_label_taken labels p.label) (Some LabelTwice) _ refl (checked_fine address (statement_of p.body) (statement_fine p.body))

first_fine : (labels : Labels) (address : ℕ) (line : List ℕ) → Fine (first_fault labels address line)
unfolding first_fault
first_fine labels address line = parts_fine labels address (split_line line)

fault_fine : (origin : ℕ) (ls : List (List ℕ)) (n : ℕ) (f : AsmFault) → fault_before origin ls n ≡ Some f → of_text f.kind ≡ true
fault_fine origin ls zero f e = absurd cc
fault_fine origin ls (suc n) f e = go (fault_before origin ls n) (fault_fine origin ls n f) (fault_of_line origin ls n) (first_fine _ _ _) e
  where
    go : (o : Option AsmFault) → (o ≡ Some f → of_text f.kind ≡ true) → (q : Option AsmFaultKind) → Fine q → or_fault o (suc n) q ≡ Some f → of_text f.kind ≡ true
    go (Some g) earlier q h e = earlier e
    go None earlier None h e = absurd cc
    go None earlier (Some kind) h e =
        let same : kind ≡ f.kind = cc in
        subst (λ k. of_text k ≡ true) same h

-- ---- the second pass

value_fine : (o : Option ℕ) → FineResult (or_out_of_range o)
value_fine None = refl
value_fine (Some v) = tt

field_fine : (range : OperandRange) (address : ℕ) (o : Option ℤ) → FineResult (field_of range address o)
field_fine range address None = refl
field_fine range address (Some z) = value_fine (field range address z)

registers_fine : (ns : List ℕ) (r : Result ℕ AsmFaultKind) → FineResult r → FineResult (then_registers ns r)
registers_fine ns (Ok v) h = tt
registers_fine ns (Err kind) h = h

operand_fine : (labels : Labels) (address : ℕ) (ns : List ℕ) (o : Option (OperandRange × Expression)) → FineResult (fields_with labels address ns o)
operand_fine labels address ns None = tt
operand_fine labels address ns (Some v) = registers_fine ns (field_of v.0 address (evaluate labels v.1)) (field_fine v.0 address (evaluate labels v.1))

append_fine : (r later : Result (List ℕ) AsmFaultKind) → FineResult r → FineResult later → FineResult (append r later)
append_fine (Err kind) later h k = h
append_fine (Ok vs) (Err kind) h k = k
append_fine (Ok vs) (Ok more) h k = tt

fields_fine : (labels : Labels) (address : ℕ) (rs : List OperandValue) → FineResult (all_fields labels address rs)
fields_fine labels address [] = tt
fields_fine labels address (r ∷ rs) =
    append_fine (fields_of labels address r) (all_fields labels address rs) (operand_fine labels address r.registers r.value) (fields_fine labels address rs)

words_fine : (labels : Labels) (address : ℕ) (r : Result Statement AsmFaultKind) → FineResult r → FineResult (statement_words labels address r)
words_fine labels address (Err kind) h = h
words_fine labels address (Ok nothing) h = tt
words_fine labels address (Ok (numbers rs)) h = fields_fine labels address rs
words_fine labels address (Ok (instruction row rs)) h = go (all_fields labels address rs) (fields_fine labels address rs)
  where
    go : (f : Result (List ℕ) AsmFaultKind) → FineResult f → FineResult (one_word row f)
    go (Err kind) k = k
    go (Ok vs) k = tt

line_fine : (labels : Labels) (address : ℕ) (o : Option LineParts) → FineResult (parts_words labels address o)
line_fine labels address None = refl
line_fine labels address (Some p) = words_fine labels address (statement_of p.body) (statement_fine p.body)

second_fine : (labels : Labels) (address : ℕ) (line : List ℕ) → FineResult (line_words labels address line)
unfolding line_words
second_fine labels address line = line_fine labels address (split_line line)

words_of_text : (labels : Labels) (origin : ℕ) (ls : List (List ℕ)) (n : ℕ) (f : AsmFault) → words_before labels origin ls n ≡ Err f → of_text f.kind ≡ true
words_of_text labels origin ls zero f e = absurd cc
words_of_text labels origin ls (suc n) f e = go (words_before labels origin ls n) (words_of_text labels origin ls n f) (words_of_line labels origin ls n) (second_fine _ _ _) e
  where
    go : (o : Result (List ℕ) AsmFault) → (o ≡ Err f → of_text f.kind ≡ true) → (q : Result (List ℕ) AsmFaultKind) → FineResult q → and_words o (suc n) q ≡ Err f → of_text f.kind ≡ true
    go (Err g) earlier q h e = earlier e
    go (Ok ws) earlier (Ok more) h e = absurd cc
    go (Ok ws) earlier (Err kind) h e =
        let same : kind ≡ f.kind = cc in
        subst (λ k. of_text k ≡ true) same h

-- the fault that lines mean is one of the text
pub means_of_text : (ls : List (List ℕ)) (origin : ℕ) (f : AsmFault) → meaning_of_lines ls origin ≡ Err f → of_text f.kind ≡ true
means_of_text ls origin f e = go (fault_before origin ls (length ls)) refl e
  where
    go : (o : Option AsmFault) → fault_before origin ls (length ls) ≡ o → unless o (words_before (all_labels origin ls) origin ls (length ls)) ≡ Err f → of_text f.kind ≡ true
    go None is e = words_of_text (all_labels origin ls) origin ls (length ls) f e
    go (Some fault) is e =
        let same : fault ≡ f = cc in
        fault_fine origin ls (length ls) f (is ∙ ap Some same)

pub not_out_of_memory : NoTextMeansOutOfMemory
not_out_of_memory text origin f means e = false≢true (sym (ap of_text e) ∙ means_of_text (lines text) origin f means)

-- there was no memory at a line where that hides no fault of the text
pub short_hides : (origin : ℕ) (text : List ℕ) (f : AsmFault) → IsFault origin text f → f.kind ≡ OutOfMemory → HidesNoFault origin (lines text) f.line
short_hides origin text f (inl means) e = absurd (not_out_of_memory text origin f means e)
short_hides origin text f (inr short) e = short.hides

-- the same, if the first pass found it
pub first_hides : (origin : ℕ) (text : List ℕ) (f : AsmFault) → (fault_before origin (lines text) (length (lines text)) ≡ Some f) ⊎ IsOutOfMemory origin text f
    → f.kind ≡ OutOfMemory → HidesNoFault origin (lines text) f.line
first_hides origin text f (inl first) e = absurd (false≢true (sym (ap of_text e) ∙ fault_fine origin (lines text) (length (lines text)) f first))
first_hides origin text f (inr short) e = short.hides
