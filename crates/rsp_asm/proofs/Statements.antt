-- Statements by their forms.
use Rattle.std.proofs.Common.{◌≡◌, refl, sym, ap, ◌∙◌, subst, ℕ, ◌<◌, ◌≤◌, ◌+◌, List, [], ◌∷◌, ◌++◌, length, length-append, drop, false, arith}
use Rattle.std.specs.Prelude.{Option, Some, None, option_map, Result, Ok, Err, if◌then◌else◌, ◌==◌, flat_map}
use Rattle.std.specs.List.{list_any, before_first, after_first}
use Rattle.std.proofs.lemmas.Bool.{cond-false}
use Rattle.std.proofs.lemmas.List.{drop_at, append-nil}
use Rattle.rsp_decode.specs.Table.{Row, bit_fields, Entry, entry_of}
use Rattle.rsp_syntax.specs.declared.fault.AsmFaultKind.{AsmFaultKind}
use Rattle.rsp_syntax.specs.declared.fault.AsmFaultKind.TheVariants.{OutOfRange, BadOperand}
use Rattle.rsp_syntax.specs.declared.line_bytes.Boundary.TheVariants.{Blank}
use Rattle.rsp_syntax.specs.Cuts.{is_boundary}
use Rattle.rsp_syntax.specs.SourceLine.{LineParts, split_line, statement_size, parts_size, line_size, statement_words, parts_words, line_words}
use Rattle.rsp_syntax.specs.Statement.{Labels, OperandValue, Statement, nothing, numbers, instruction, Form, no_operation, numbers_form, row_form, read_all, read_numbers, form_named, statement_of_form, with_operands, with_form, statement_of, operand_texts, append, all_fields, one_word}
use Rattle.rsp_syntax.specs.OperandResults.{operand_fails, with_values}
use Rattle.rsp_asm.specs.Statements.{size_or_fault, count_or_fault, counted, row_words, row_size, word_with, single, Pushed, Puts}
use Rattle.rsp_asm.proofs.OperandValues.{numbers_length}
use Rattle.rsp_asm.proofs.Steps.{Part, words_with}

abbrev pub name_of : List ℕ → List ℕ
name_of bs = before_first (is_boundary Blank) bs

abbrev pub texts_after : List ℕ → List (List ℕ)
texts_after bs = operand_texts (after_first (is_boundary Blank) bs)

-- the statement of a text that isn't empty, by the statement that its name and its operands give
pub statement_is : (bs name operands : List ℕ) (o : Option Form) → (length bs == 0) ≡ false → name ≡ name_of bs → operands ≡ after_first (is_boundary Blank) bs → form_named name (length (operand_texts operands)) ≡ o → statement_of bs ≡ with_form o (operand_texts operands)
statement_is bs name operands o some n t e =
    cond-false (length bs == 0) (Ok nothing) _ some
    ∙ ap (λ x. with_form (form_named x (length (texts_after bs))) (texts_after bs)) (sym n)
    ∙ ap (λ x. with_form (form_named name (length (operand_texts x))) (operand_texts x)) (sym t)
    ∙ ap (λ f. with_form f (operand_texts operands)) e

-- ---- the first pass

pub nothing_unread : (address : ℕ) (ts : List (List ℕ)) → 0 < length ts → Err BadOperand ≡ size_or_fault address (with_operands (statement_of_form no_operation ts))
nothing_unread address [] lt = absurd (omega arith)
nothing_unread address (t ∷ ts) lt = refl

pub numbers_checked : (address : ℕ) (ts : List (List ℕ)) → 0 < length ts → count_or_fault address false (length ts) (read_numbers ts) ≡ size_or_fault address (with_operands (statement_of_form numbers_form ts))
numbers_checked address [] some = absurd (omega arith)
numbers_checked address (t ∷ ts) some = go (read_numbers (t ∷ ts)) (numbers_length (t ∷ ts))
  where
    go : (o : Option (List OperandValue)) → ((rs : List OperandValue) → o ≡ Some rs → length rs ≡ length (t ∷ ts)) → count_or_fault address false (length (t ∷ ts)) o ≡ size_or_fault address (with_operands (option_map numbers o))
    go None many = refl
    go (Some rs) many = ap (λ n. if list_any (operand_fails address) rs then Err OutOfRange else Ok n) (sym (many rs refl))

-- ---- the second pass

pub nothing_unsaid : (labels : Labels) (address : ℕ) (ts : List (List ℕ)) → 0 < length ts → statement_words labels address (with_operands (statement_of_form no_operation ts)) ≡ Err BadOperand
nothing_unsaid labels address [] lt = absurd (omega arith)
nothing_unsaid labels address (t ∷ ts) lt = refl

-- what .word gives of these texts
abbrev pub listed : List (List ℕ) → Result Statement AsmFaultKind
listed ts = with_operands (statement_of_form numbers_form ts)

append_to_none : (o : Result (List ℕ) AsmFaultKind) → append (Ok []) o ≡ o
append_to_none (Err kind) = refl
append_to_none (Ok vs) = refl

pub numbers_said : (labels : Labels) (address : ℕ) (ts : List (List ℕ)) → 0 < length ts → words_with labels address (Ok []) (read_numbers ts) ≡ statement_words labels address (listed ts)
numbers_said labels address [] some = absurd (omega arith)
numbers_said labels address (t ∷ ts) some = go (read_numbers (t ∷ ts))
  where
    go : (o : Option (List OperandValue)) → words_with labels address (Ok []) o ≡ statement_words labels address (with_operands (option_map numbers o))
    go None = refl
    go (Some rs) = append_to_none (all_fields labels address rs)

module _ (labels : Labels) (address : ℕ) (ts : List (List ℕ)) (some : 0 < length ts) where
  -- numbers that give words are as many as their texts
  numbers_sized : (words : List ℕ) → Ok words ≡ statement_words labels address (listed ts) → statement_size (listed ts) ≡ length ts
  numbers_sized words e = go ts some e
    where
      go : (ts : List (List ℕ)) → 0 < length ts → Ok words ≡ statement_words labels address (listed ts) → statement_size (listed ts) ≡ length ts
      go [] some e = absurd (omega arith)
      go (t ∷ ts) some e = again (read_numbers (t ∷ ts)) (numbers_length (t ∷ ts)) e
        where
          again : (o : Option (List OperandValue)) → ((rs : List OperandValue) → o ≡ Some rs → length rs ≡ length (t ∷ ts)) → Ok words ≡ statement_words labels address (with_operands (option_map numbers o)) → statement_size (with_operands (option_map numbers o)) ≡ length (t ∷ ts)
          again None many e = absurd cc
          again (Some rs) many e = many rs refl

  -- numbers that have no room can't be read
  pub numbers_full : (room : ℕ) → statement_size (listed ts) ≤ room → room < length ts → statement_words labels address (listed ts) ≡ Err BadOperand
  numbers_full room fits less = go ts some fits less
    where
      go : (ts : List (List ℕ)) → 0 < length ts → statement_size (listed ts) ≤ room → room < length ts → statement_words labels address (listed ts) ≡ Err BadOperand
      go [] some fits less = absurd (omega arith)
      go (t ∷ ts) some fits less = again (read_numbers (t ∷ ts)) (numbers_length (t ∷ ts)) fits
        where
          again : (o : Option (List OperandValue)) → ((rs : List OperandValue) → o ≡ Some rs → length rs ≡ length (t ∷ ts)) → statement_size (with_operands (option_map numbers o)) ≤ room → statement_words labels address (with_operands (option_map numbers o)) ≡ Err BadOperand
          again None many fits = refl
          again (Some rs) many fits = let same = many rs refl in absurd (omega (arith, same))

  module _ (old new : List ℕ) where
    -- the numbers are put where none of them has a fault
    pub all_put : Part labels old new None [] ts → Pushed (statement_words labels address (listed ts)) (statement_size (listed ts)) old new
    all_put p =
        let same : Ok (p.words ++ []) ≡ statement_words labels address (listed ts) = p.said address ∙ numbers_said labels address ts some in
        record {
          words = p.words;
          said_words = sym same ∙ ap Ok (append-nil p.words);
          kept = p.kept;
          count_is = let count = p.count_is refl in let size = numbers_sized (p.words ++ []) same in omega (arith, count, size);
        }

    pub none_put : (kind : AsmFaultKind) → Part labels old new (Some kind) [] ts → statement_words labels address (listed ts) ≡ Err kind
    none_put kind p = sym (p.said address ∙ numbers_said labels address ts some)

pub row_said : (labels : Labels) (address : ℕ) (row : Row) (e : Entry) (ts : List (List ℕ)) → entry_of row ≡ e → row_words labels address e ts ≡ statement_words labels address (with_operands (statement_of_form (row_form row) ts))
row_said labels address row e ts same = sym (ap (λ (x : Entry). row_words labels address x ts) same) ∙ go (read_all row.operands ts)
  where
    go : (o : Option (List OperandValue)) → single (word_with labels address (Ok row.value) (flat_map bit_fields row.operands) o) ≡ statement_words labels address (with_operands (option_map (instruction row) o))
    go None = refl
    go (Some rs) = again (all_fields labels address rs)
      where
        again : (f : Result (List ℕ) AsmFaultKind) → single (with_values row.value (flat_map bit_fields row.operands) f) ≡ one_word row f
        again (Err kind) = refl
        again (Ok vs) = refl

pub row_sized : (row : Row) (e : Entry) (ts : List (List ℕ)) → entry_of row ≡ e → row_size e ts ≡ statement_size (with_operands (statement_of_form (row_form row) ts))
row_sized row e ts same = sym (ap (λ (x : Entry). row_size x ts) same) ∙ go (read_all row.operands ts)
  where
    go : (o : Option (List OperandValue)) → counted 1 o ≡ statement_size (with_operands (option_map (instruction row) o))
    go None = refl
    go (Some rs) = refl

module _ (labels : Labels) (address : ℕ) (old new : List ℕ) (result : Result (Unit {0}) AsmFaultKind) where
  -- a call puts the words of a statement
  abbrev pub PutsStatement : Result Statement AsmFaultKind → Type 0
  PutsStatement said = Puts (statement_words labels address said) (statement_size said) old new result

  pub numbers_put : (said : Result Statement AsmFaultKind) (ts : List (List ℕ)) → said ≡ listed ts → PutsStatement (listed ts) → PutsStatement said
  numbers_put said ts is h = subst PutsStatement (sym is) h

  pub row_put : (said : Result Statement AsmFaultKind) (row : Row) (e : Entry) (ts : List (List ℕ)) → entry_of row ≡ e → said ≡ with_operands (statement_of_form (row_form row) ts) → Puts (row_words labels address e ts) (row_size e ts) old new result → PutsStatement said
  row_put said row e ts same is h =
      subst PutsStatement (sym is) (subst (λ s. Puts s (statement_size (with_operands (statement_of_form (row_form row) ts))) old new result) (row_said labels address row e ts same) (subst (λ n. Puts (row_words labels address e ts) n old new result) (row_sized row e ts same) h))

-- ---- the line of a statement

module _ (said : Result (List ℕ) AsmFaultKind) (count : ℕ) (old new : List ℕ) (p : Pushed said count old new) where
  dropped : drop (length old) new ≡ p.words
  dropped = ap (drop (length old)) p.kept ∙ drop_at old p.words (length old) refl

  pub pushed_ok : said ≡ Ok (drop (length old) new)
  pushed_ok = p.said_words ∙ ap Ok (sym dropped)

  pub pushed_kept : new ≡ old ++ drop (length old) new
  pushed_kept = p.kept ∙ ap (λ t. old ++ t) (sym dropped)

  pub pushed_len : length new ≡ length old + count
  pushed_len = omega (arith, ap length p.kept, length-append old p.words, p.count_is)

module _ (labels : Labels) (address : ℕ) (line : List ℕ) (p : LineParts) (is : Some p ≡ split_line line) where
  pub line_said : line_words labels address line ≡ statement_words labels address (statement_of p.body)
  unfolding line_words
  line_said = ap (parts_words labels address) (sym is)

  pub line_sized : line_size line ≡ statement_size (statement_of p.body)
  unfolding line_size
  line_sized = ap parts_size (sym is)
