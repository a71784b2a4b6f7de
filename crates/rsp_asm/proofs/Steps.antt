-- One step of a loop over the texts of operands.
use Rattle.std.proofs.Common.{◌≡◌, refl, sym, ap, ◌∙◌, ℕ, ◌+◌, ◌<◌, ◌≤◌, List, [], ◌∷◌, ◌++◌, length, length-append, drop, get_or, Bool, true, false, ◌||◌, arith}
use Rattle.std.specs.Prelude.{Option, Some, None, option_map, option_and_then, Result, Ok, Err, ℤ, flat_map, if◌then◌else◌}
use Rattle.std.specs.List.{list_any}
use Rattle.std.specs.Option.{option_or}
use Rattle.std.specs.Result.{result_err, result_unwrap_or}
use Rattle.std.proofs.lemmas.List.{append_assoc}
use Rattle.rsp_decode.specs.Table.{Operand, BitField, bit_fields}
use Rattle.rsp_syntax.specs.declared.fault.AsmFaultKind.{AsmFaultKind}
use Rattle.rsp_syntax.specs.declared.fault.AsmFaultKind.TheVariants.{BadOperand, OutOfRange}
use Rattle.rsp_syntax.specs.declared.operand_range.OperandRange.TheVariants.{Word}
use Rattle.rsp_syntax.specs.Numbers.{Expression, expression_of}
use Rattle.rsp_syntax.specs.Statement.{Labels, OperandValue, read, read_all, read_numbers, ranged_value, append, evaluate, field_of, fields_of, all_fields, then_registers, or_out_of_range, word}
use Rattle.rsp_syntax.specs.OperandResults.{operand_fails, with_values, word_fails, word_value}
use Rattle.rsp_syntax.proofs.Tables.{at_index}
use Rattle.rsp_asm.specs.Statements.{count_or_fault, and_then, word_with, single}
use Rattle.rsp_asm.proofs.OperandValues.{span, fields_span, read_span, with_fields_append}

-- a reading before others, where all can be read
abbrev pub before_others : Option OperandValue → Option (List OperandValue) → Option (List OperandValue)
before_others o q = option_and_then (λ (r : OperandValue). option_map (λ (rs : List OperandValue). r ∷ rs) q) o

-- a fault that was found, or what was made so far
abbrev pub so_far : {A : Type 0} → Option AsmFaultKind → A → Result A AsmFaultKind
so_far None x = Ok x
so_far (Some kind) x = Err kind

-- ---- the first pass

or_both : (a b c : Bool) → (a || b) || c ≡ a || (b || c)
or_both true b c = refl
or_both false b c = refl

module _ (address count : ℕ) (bad : Bool) where
  pub checked_next : (o : Option OperandValue) (q : Option (List OperandValue)) (b : Bool) → Some b ≡ option_map (operand_fails address) o → count_or_fault address (bad || b) count q ≡ count_or_fault address bad count (before_others o q)
  checked_next None q b e = absurd cc
  checked_next (Some r) None b e = refl
  checked_next (Some r) (Some rs) b e =
      let same : b ≡ operand_fails address r = cc in
      ap (λ t. if (bad || t) || list_any (operand_fails address) rs then Err OutOfRange else Ok count) same
      ∙ ap (λ t. if t then Err OutOfRange else Ok count) (or_both bad (operand_fails address r) (list_any (operand_fails address) rs))

-- ---- the second pass

put_one : (w : ℕ) (ps qs : List BitField) (o more : Result (List ℕ) AsmFaultKind) → ((vs : List ℕ) → o ≡ Ok vs → length vs ≡ length ps) → and_then (with_values w ps o) (λ v. with_values v qs more) ≡ with_values w (ps ++ qs) (append o more)
put_one w ps qs (Err kind) more fit = refl
put_one w ps qs (Ok vs) (Err kind) fit = refl
put_one w ps qs (Ok vs) (Ok ws) fit = ap Ok (sym (with_fields_append ps qs vs ws w (fit vs refl)))

module _ (labels : Labels) (address v : ℕ) (ps qs : List BitField) where
  word_next : (fault : Option AsmFaultKind) (o : Option OperandValue) (q : Option (List OperandValue)) (p : Result ℕ AsmFaultKind) → ((r : OperandValue) → o ≡ Some r → span r ≡ length ps) → Some p ≡ option_map (λ (r : OperandValue). with_values v ps (fields_of labels address r)) o → word_with labels address (and_then (so_far fault v) (λ x. p)) qs q ≡ word_with labels address (so_far fault v) (ps ++ qs) (before_others o q)
  word_next fault None q p fit e = absurd cc
  word_next fault (Some r) None p fit e = refl
  word_next (Some kind) (Some r) (Some rs) p fit e = refl
  word_next None (Some r) (Some rs) p fit e =
      let same : p ≡ with_values v ps (fields_of labels address r) = cc in
      ap (λ x. and_then x (λ y. with_values y qs (all_fields labels address rs))) same
      ∙ put_one v ps qs (fields_of labels address r) (all_fields labels address rs) (λ vs h. fields_span labels address r.registers r.value vs h ∙ fit r refl)

pub word_kept : (fault : Option AsmFaultKind) (v : ℕ) (p : Result ℕ AsmFaultKind) → so_far (option_or fault (result_err p)) (result_unwrap_or p v) ≡ and_then (so_far fault v) (λ x. p)
word_kept None v (Ok next) = refl
word_kept None v (Err kind) = refl
word_kept (Some first) v (Ok next) = refl
word_kept (Some first) v (Err kind) = refl

-- ---- the operands of a row

module _ (kinds : List Operand) (i : ℕ) (lt : i < length kinds) where
  pub too_few : (d : Operand) → read_all (drop i kinds) [] ≡ None
  too_few d = ap (λ ks. read_all ks []) (at_index kinds i d lt)

  pub first_read : (d : Operand) (t : List ℕ) (ts : List (List ℕ)) → read_all (drop i kinds) (t ∷ ts) ≡ before_others (read (get_or kinds i d) t) (read_all (drop (i + 1) kinds) ts)
  first_read d t ts = ap (λ ks. read_all ks (t ∷ ts)) (at_index kinds i d lt)

  pub first_put : (d : Operand) (t : List ℕ) (ts : List (List ℕ)) (labels : Labels) (address v : ℕ) (fault : Option AsmFaultKind) (p w : Result ℕ AsmFaultKind)
      → Some p ≡ option_map (λ (r : OperandValue). with_values v (bit_fields (get_or kinds i d)) (fields_of labels address r)) (read (get_or kinds i d) t)
      → w ≡ and_then (so_far fault v) (λ x. p)
      → word_with labels address w (flat_map bit_fields (drop (i + 1) kinds)) (read_all (drop (i + 1) kinds) ts) ≡ word_with labels address (so_far fault v) (flat_map bit_fields (drop i kinds)) (read_all (drop i kinds) (t ∷ ts))
  first_put d t ts labels address v fault p w e is =
      let k = get_or kinds i d in
      let ks = drop (i + 1) kinds in
      ap (λ x. word_with labels address x (flat_map bit_fields ks) (read_all ks ts)) is
      ∙ word_next labels address v (bit_fields k) (flat_map bit_fields ks) fault (read k t) (read_all ks ts) p (read_span k t) e
      ∙ sym (ap (λ (xs : List Operand). word_with labels address (so_far fault v) (flat_map bit_fields xs) (read_all xs (t ∷ ts))) (at_index kinds i d lt))

  -- an operand that can't be read leaves nothing to read
  pub first_unread : {A : Type 0} (f : OperandValue → A) (d : Operand) (t : List ℕ) (ts : List (List ℕ)) → None ≡ option_map f (read (get_or kinds i d) t) → None ≡ read_all (drop i kinds) (t ∷ ts)
  first_unread f d t ts e = go (read (get_or kinds i d) t) e ∙ sym (first_read d t ts)
    where
      go : (o : Option OperandValue) → None ≡ option_map f o → None ≡ before_others o (read_all (drop (i + 1) kinds) ts)
      go None e = refl
      go (Some r) e = absurd cc

-- ---- the numbers of .word

pub numbers_first : (t : List ℕ) (ts : List (List ℕ)) → read_numbers (t ∷ ts) ≡ before_others (option_map (ranged_value Word []) (expression_of t)) (read_numbers ts)
numbers_first t ts = go (expression_of t)
  where
    go : (o : Option Expression) → option_and_then (λ (e : Expression). option_map (λ (rs : List OperandValue). ranged_value Word [] e ∷ rs) (read_numbers ts)) o ≡ before_others (option_map (ranged_value Word []) o) (read_numbers ts)
    go None = refl
    go (Some e) = refl

pub numbers_unread : {A : Type 0} (f : Expression → A) (t : List ℕ) (ts : List (List ℕ)) → None ≡ option_map f (expression_of t) → None ≡ read_numbers (t ∷ ts)
numbers_unread f t ts e = go (expression_of t) e ∙ sym (numbers_first t ts)
  where
    go : (o : Option Expression) → None ≡ option_map f o → None ≡ before_others (option_map (ranged_value Word []) o) (read_numbers ts)
    go None e = refl
    go (Some x) e = absurd cc

pub word_fails_so : (address : ℕ) (o : Option Expression) → option_map word_fails o ≡ option_map (operand_fails address) (option_map (ranged_value Word []) o)
word_fails_so address None = refl
word_fails_so address (Some e) = refl

-- words followed by those of these operands, or the fault of the leftmost that has one
abbrev pub words_with : Labels → ℕ → Result (List ℕ) AsmFaultKind → Option (List OperandValue) → Result (List ℕ) AsmFaultKind
words_with labels address words None = Err BadOperand
words_with labels address words (Some rs) = append words (all_fields labels address rs)

one_number : (labels : Labels) (address : ℕ) (e : Expression) → single (word_value labels e) ≡ fields_of labels address (ranged_value Word [] e)
one_number labels address e = go (evaluate labels e)
  where
    go : (o : Option ℤ) → single (field_of Word 0 o) ≡ then_registers [] (field_of Word address o)
    go None = refl
    go (Some z) = again (word z)
      where
        again : (o : Option ℕ) → single (or_out_of_range o) ≡ then_registers [] (or_out_of_range o)
        again None = refl
        again (Some v) = refl

append_three : (a b c : Result (List ℕ) AsmFaultKind) → append (append a b) c ≡ append a (append b c)
append_three (Err kind) b c = refl
append_three (Ok vs) (Err kind) c = refl
append_three (Ok vs) (Ok ws) (Err kind) = refl
append_three (Ok vs) (Ok ws) (Ok us) = ap Ok (append_assoc vs ws us)

numbers_next : (labels : Labels) (address : ℕ) (words : Result (List ℕ) AsmFaultKind) (o : Option Expression) (q : Option (List OperandValue)) (p : Result ℕ AsmFaultKind) → Some p ≡ option_map (word_value labels) o → words_with labels address (append words (single p)) q ≡ words_with labels address words (before_others (option_map (ranged_value Word []) o) q)
numbers_next labels address words None q p e = absurd cc
numbers_next labels address words (Some x) None p e = refl
numbers_next labels address words (Some x) (Some rs) p e =
    let same : p ≡ word_value labels x = cc in
    ap (λ y. append (append words (single y)) (all_fields labels address rs)) same
    ∙ ap (λ y. append (append words y) (all_fields labels address rs)) (one_number labels address x)
    ∙ append_three words (fields_of labels address (ranged_value Word [] x)) (all_fields labels address rs)

-- Some of the numbers are put after the words before them, or one of them has a fault, and these texts are left.
pub record Part (labels : Labels) (old new : List ℕ) (fault : Option AsmFaultKind) (left ts : List (List ℕ)) : Type 0 where
  pub words : List ℕ
  pub kept : new ≡ old ++ words
  pub said : (address : ℕ) → words_with labels address (so_far fault words) (read_numbers left) ≡ words_with labels address (Ok []) (read_numbers ts)
  pub few : length words + length left ≤ length ts
  pub count_is : fault ≡ None → length words + length left ≡ length ts

words_kept : (fault : Option AsmFaultKind) (words : List ℕ) (w : ℕ) → so_far fault (words ++ w ∷ []) ≡ append (so_far fault words) (single (Ok w))
words_kept None words w = refl
words_kept (Some kind) words w = refl

faults_kept : (fault : Option AsmFaultKind) (words : List ℕ) (kind : AsmFaultKind) → so_far (option_or fault (Some kind)) words ≡ append (so_far fault words) (single (Err kind))
faults_kept None words kind = refl
faults_kept (Some first) words kind = refl

still_none : {A : Type 0} (fault : Option AsmFaultKind) (kind : AsmFaultKind) → option_or fault (Some kind) ≡ None → A
still_none None kind e = absurd cc
still_none (Some first) kind e = absurd cc

module _ (labels : Labels) (old new : List ℕ) (fault : Option AsmFaultKind) (t : List ℕ) (left ts : List (List ℕ)) (p : Part labels old new fault (t ∷ left) ts) where
  goes_on : (words : Result (List ℕ) AsmFaultKind) (found : Result ℕ AsmFaultKind) → Some found ≡ option_map (word_value labels) (expression_of t) → words ≡ append (so_far fault p.words) (single found) → (address : ℕ) → words_with labels address words (read_numbers left) ≡ words_with labels address (Ok []) (read_numbers ts)
  goes_on words found e is address =
      ap (λ ws. words_with labels address ws (read_numbers left)) is
      ∙ numbers_next labels address (so_far fault p.words) (expression_of t) (read_numbers left) found e
      ∙ ap (words_with labels address (so_far fault p.words)) (sym (numbers_first t left))
      ∙ p.said address

  pub part_more : (w : ℕ) (new' : List ℕ) → Some (Ok w) ≡ option_map (word_value labels) (expression_of t) → new' ≡ new ++ w ∷ [] → Part labels old new' fault left ts
  part_more w new' e is = record {
    words = p.words ++ w ∷ [];
    kept = is ∙ ap (λ xs. xs ++ w ∷ []) p.kept ∙ append_assoc old p.words (w ∷ []);
    said = goes_on (so_far fault (p.words ++ w ∷ [])) (Ok w) e (words_kept fault p.words w);
    few = let few = p.few in omega (arith, few, length-append p.words (w ∷ []));
    count_is = λ none. let same = p.count_is none in omega (arith, same, length-append p.words (w ∷ []));
  }

  pub part_fault : (kind : AsmFaultKind) → Some (Err kind) ≡ option_map (word_value labels) (expression_of t) → Part labels old new (option_or fault (Some kind)) left ts
  part_fault kind e = record {
    words = p.words;
    kept = p.kept;
    said = goes_on (so_far (option_or fault (Some kind)) p.words) (Err kind) e (faults_kept fault p.words kind);
    few = let few = p.few in omega (arith, few);
    count_is = λ none. still_none fault kind none;
  }

  pub part_unread : None ≡ option_map (word_value labels) (expression_of t) → (address : ℕ) → words_with labels address (Ok []) (read_numbers ts) ≡ Err BadOperand
  part_unread e address = sym (p.said address) ∙ ap (words_with labels address (so_far fault p.words)) (sym (numbers_unread (word_value labels) t left e))
