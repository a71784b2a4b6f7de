-- Tables with the same address for each name give each line the same fault and the same words.
use Rattle.std.proofs.Common.{◌≡◌, refl, sym, ap, ◌∙◌, ℕ, zero, suc, List, [], ◌∷◌, ◌++◌, length, Bool, true, false, inl, inr, arith}
use Rattle.std.specs.Prelude.{Option, Some, None, is_some, Result, Ok, Err, if◌then◌else◌, pos, ◌+ℤ◌, option_map}
use Rattle.std.specs.Str.{bytes_eq}
use Rattle.std.proofs.lemmas.Bool.{cases_Bool, cond-true, cond-false}
use Rattle.std.proofs.lemmas.Grind.{common_steps}
use Rattle.std.proofs.lemmas.Slice.Eq.{bytes_eq-Decides}
use Rattle.std.proofs.lemmas.List.{append-nil}
use Rattle.rsp_syntax.specs.declared.fault.AsmFaultKind.{AsmFaultKind}
use Rattle.rsp_syntax.specs.declared.fault.AsmFaultKind.TheVariants.{LabelTwice}
use Rattle.rsp_syntax.specs.declared.operand_range.OperandRange.{OperandRange}
use Rattle.rsp_syntax.specs.Numbers.{Expression}
use Rattle.rsp_syntax.specs.Statement.{Labels, find_label, label_address, evaluate, field_of, then_registers, fields_with, fields_of, OperandValue, append, all_fields, Statement, nothing, numbers, instruction, one_word, statement_of}
use Rattle.rsp_syntax.specs.SourceLine.{LineParts, split_line, is_label_taken, statement_fault, parts_fault, first_fault, label_in, label_of, statement_words, parts_words, line_words}
use Rattle.rsp_syntax.specs.SourceText.{line_at, address_of_line, labelled, all_labels, words_of_line, fault_before, and_words, words_before, unless, meaning_of_lines}
use Rattle.rsp_operands.specs.Labels.{SameAddresses}

-- ---- a label after others

-- a label whose name no earlier one has is found as if it were the first
found_behind : (xs : Labels) (name : List ℕ) (address : ℕ) → find_label xs name ≡ None → (q : List ℕ) → find_label (xs ++ (name, address) ∷ []) q ≡ (if bytes_eq name q then Some address else find_label xs q)
found_behind [] name address none q = refl
found_behind (x ∷ xs) name address none q = elim (cases_Bool (bytes_eq x.0 name)) [
  | inl t ↦ let same : Some x.1 ≡ None = sym (cond-true (bytes_eq x.0 name) (Some x.1) (find_label xs name) t) ∙ none in absurd cc
  | inr f ↦
      ap (λ o. if bytes_eq x.0 q then Some x.1 else o) (found_behind xs name address (sym (cond-false (bytes_eq x.0 name) (Some x.1) (find_label xs name) f) ∙ none) q)
      ∙ apart (bytes_eq x.0 q) (bytes_eq name q) (grind (arith, common_steps, bytes_eq-Decides x.0 name, bytes_eq-Decides x.0 q, bytes_eq-Decides name q))
]
  where
    apart : (a b : Bool) → (a ≡ true → b ≡ false) → (if a then Some x.1 else (if b then Some address else find_label xs q)) ≡ (if b then Some address else (if a then Some x.1 else find_label xs q))
    apart true true h = let no : true ≡ false = h refl in absurd cc
    apart true false h = refl
    apart false b h = refl

-- the label of a line, put before others with the same addresses, is found as if it were after them
pub same_behind : (o : Option (List ℕ)) (address : ℕ) (new old table : Labels) → is_label_taken table o ≡ false → SameAddresses new (labelled o address ++ old) → SameAddresses old table → SameAddresses new (table ++ labelled o address)
same_behind None address new old table once h same q = h q ∙ same q ∙ ap (λ t. find_label t q) (sym (append-nil table))
same_behind (Some name) address new old table once h same q =
    h q ∙ ap (λ f. if bytes_eq name q then Some address else f) (same q) ∙ sym (found_behind table name address (none (find_label table name) once) q)
  where
    none : (o : Option ℕ) → is_some o ≡ false → o ≡ None
    none None e = refl
    none (Some p) e = absurd cc

-- ---- the first pass

module _ (xs ys : Labels) (same : SameAddresses xs ys) where
  pub twice_same : (o : Option (List ℕ)) → is_label_taken xs o ≡ is_label_taken ys o
  twice_same None = refl
  twice_same (Some name) = ap is_some (same name)

  pub first_same : (address : ℕ) (line : List ℕ) → first_fault xs address line ≡ first_fault ys address line
  unfolding first_fault
  first_same address line = go (split_line line)
    where
      go : (o : Option LineParts) → parts_fault xs address o ≡ parts_fault ys address o
      go None = refl
      go (Some p) = ap (λ b. if b then Some LabelTwice else statement_fault address (statement_of p.body)) (twice_same p.label)

  -- ---- the second pass

  value_same : (e : Expression) → evaluate xs e ≡ evaluate ys e
  value_same e = ap (option_map (λ p. pos p +ℤ e.offset)) (go e.label)
    where
      go : (o : Option (List ℕ)) → label_address xs o ≡ label_address ys o
      go None = refl
      go (Some name) = same name

  pub fields_same : (address : ℕ) (ns : List ℕ) (o : Option (OperandRange × Expression)) → fields_with xs address ns o ≡ fields_with ys address ns o
  fields_same address ns None = refl
  fields_same address ns (Some v) = ap (λ z. then_registers ns (field_of v.0 address z)) (value_same v.1)

  all_same : (address : ℕ) (rs : List OperandValue) → all_fields xs address rs ≡ all_fields ys address rs
  all_same address [] = refl
  all_same address (r ∷ rs) =
      ap (λ f. append f (all_fields xs address rs)) (fields_same address r.registers r.value) ∙ ap (append (fields_of ys address r)) (all_same address rs)

  said_same : (address : ℕ) (s : Result Statement AsmFaultKind) → statement_words xs address s ≡ statement_words ys address s
  said_same address (Err kind) = refl
  said_same address (Ok nothing) = refl
  said_same address (Ok (numbers rs)) = all_same address rs
  said_same address (Ok (instruction row rs)) = ap (one_word row) (all_same address rs)

  line_same : (address : ℕ) (line : List ℕ) → line_words xs address line ≡ line_words ys address line
  unfolding line_words
  line_same address line = go (split_line line)
    where
      go : (o : Option LineParts) → parts_words xs address o ≡ parts_words ys address o
      go None = refl
      go (Some p) = said_same address (statement_of p.body)

  pub words_same : (origin : ℕ) (ls : List (List ℕ)) (n : ℕ) → words_before xs origin ls n ≡ words_before ys origin ls n
  words_same origin ls zero = refl
  words_same origin ls (suc n) =
      ap (λ o. and_words o (suc n) (words_of_line xs origin ls n)) (words_same origin ls n)
      ∙ ap (and_words (words_before ys origin ls n) (suc n)) (line_same (address_of_line origin ls n) (line_at ls n))

-- a line without fault has a label that none of the labels is
pub new_label : (labels : Labels) (address : ℕ) (line : List ℕ) → first_fault labels address line ≡ None → is_label_taken labels (label_of line) ≡ false
unfolding first_fault label_of
new_label labels address line e = go (split_line line) e
  where
    once : (b : Bool) (later : Option AsmFaultKind) → (if b then Some LabelTwice else later) ≡ None → b ≡ false
    once true later e = absurd cc
    once false later e = refl

    go : (o : Option LineParts) → parts_fault labels address o ≡ None → is_label_taken labels (label_in o) ≡ false
    go None e = absurd cc
    go (Some p) e = once (is_label_taken labels p.label) (statement_fault address (statement_of p.body)) e

-- what the second pass says with such a table is what the lines mean, where the first pass finds no fault
pub means_same : (origin : ℕ) (ls : List (List ℕ)) (labels : Labels) → fault_before origin ls (length ls) ≡ None → SameAddresses labels (all_labels origin ls) → words_before labels origin ls (length ls) ≡ meaning_of_lines ls origin
means_same origin ls labels clean same =
    words_same labels (all_labels origin ls) same origin ls (length ls)
    ∙ sym (ap (λ o. unless o (words_before (all_labels origin ls) origin ls (length ls))) clean)
