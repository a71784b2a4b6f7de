-- Each row of the instruction table is short, and what `select_row` answers is the row of a word.
use Rattle.std.proofs.Common.{◌≡◌, refl, sym, ap, ◌∙◌, ℕ, List, [], ◌∷◌, ◌++◌, Bool, true, false, inl, inr}
use Rattle.std.specs.Prelude.{map, find, Option, Some, None, option_map, ◌==◌, ◌&&◌, codes, IsTrue, ◌↔◌, if◌then◌else◌}
use Rattle.std.specs.List.{list_all}
use Rattle.std.proofs.lemmas.Bool.{and_parts, and_from, cases_Bool, cond-true, cond-false, eq-eqb, eqb-true, ne_eqb}
use Rattle.rsp_decode.specs.Table.{Operand, Row, rows, fits, fields, row_of, word_from, canonical_of, Entry, entry_of}
use Rattle.rsp_syntax.specs.Disassembly.{has_text, operand_text, operands_after_name, word_directive, row_disassembly, disassembly}
use Rattle.rsp_dis.specs.Labels.{operands_target, row_target, word_target, name_or_text, operand_target, labelled_operand, labelled_row_text, labelled_row, labelled_disassembly}
use Rattle.rsp_dis.specs.LabelTests.{labels_in}
use Rattle.rsp_dis.specs.TextLength.{is_short}

all_short : list_all (λ (r : Row). is_short (entry_of r)) rows ≡ true
all_short = refl

among : (p : Row → Bool) (rs : List Row) (r : Row) → list_all (λ (r : Row). is_short (entry_of r)) rs ≡ true → find p rs ≡ Some r → is_short (entry_of r) ≡ true
among p [] r all found = absurd cc
among p (x ∷ xs) r all found =
    let both = and_parts (is_short (entry_of x)) (list_all (λ (r : Row). is_short (entry_of r)) xs) all in
    elim (cases_Bool (p x)) [
      | inl y ↦ let same : Some x ≡ Some r = sym (cond-true (p x) (Some x) (find p xs) y) ∙ found in let this : r ≡ x = cc in rw this both.0
      | inr n ↦ among p xs r both.1 (sym (cond-false (p x) (Some x) (find p xs) n) ∙ found)
    ]

short_by : (w : ℕ) (e : Entry) (o : Option Row) → row_of w ≡ o → Some e ≡ option_map entry_of o → is_short e ≡ true
unfolding row_of
short_by w e None is found = absurd cc
short_by w e (Some r) is found = let same : e ≡ entry_of r = cc in rw same (among (fits w) rows r all_short is)

pub selected_short : (w : ℕ) (e : Entry) → Some e ≡ option_map entry_of (row_of w) → is_short e ≡ true
selected_short w e found = short_by w e (row_of w) refl found

-- ---- the text of a word that isn't 0

pub no_operation : (f : ℕ → Bool) (w address : ℕ) → w ≡ 0 → codes "nop" ≡ labelled_disassembly f w address
unfolding labelled_disassembly
no_operation f w address e = sym (cond-true (w == 0) (codes "nop") (labelled_row f w address (row_of w)) (eq-eqb w 0 e))

module _ (f : ℕ → Bool) (w address : ℕ) (some : w ≡ 0 → ⊥) where
  by_row : (o : Option Row) → row_of w ≡ o → labelled_disassembly f w address ≡ labelled_row f w address o
  unfolding labelled_disassembly
  by_row o is = cond-false (w == 0) (codes "nop") (labelled_row f w address (row_of w)) (ne_eqb w 0 some) ∙ ap (labelled_row f w address) is

  own_word : (r : Row) → row_of w ≡ Some r → canonical_of w ≡ Some w → (word_from r (fields r w) == w) ≡ true
  unfolding canonical_of
  own_word r is own =
      let same : Some (word_from r (fields r w)) ≡ Some w = sym (ap (option_map (λ (x : Row). word_from x (fields x w))) is) ∙ own in
      eq-eqb _ w cc

  canonical_row : (r : Row) → row_of w ≡ Some r → (word_from r (fields r w) == w) ≡ true → canonical_of w ≡ Some w
  unfolding canonical_of
  canonical_row r is e = ap (option_map (λ (x : Row). word_from x (fields x w))) is ∙ ap Some (eqb-true _ w e)

  spelled_by : (t : Entry) (o : Option Row) → row_of w ≡ o → Some t ≡ option_map entry_of o → canonical_of w ≡ Some w → list_all (has_text w address) t.operands ≡ true → t.name ++ operands_after_name (map (labelled_operand f w address) t.operands) ≡ labelled_disassembly f w address
  spelled_by t None is found own near = absurd cc
  spelled_by t (Some r) is found own near =
      let same : t ≡ entry_of r = cc in
      ap (λ (x : Entry). x.name ++ operands_after_name (map (labelled_operand f w address) x.operands)) same
      ∙ sym (by_row (Some r) is
      ∙ cond-true ((word_from r (fields r w) == w) && list_all (has_text w address) r.operands) (labelled_row_text f w address r) (word_directive w)
      (and_from _ _ (own_word r is own) (sym (ap (λ (x : Entry). list_all (has_text w address) x.operands) same) ∙ near)))

  far_by : (t : Entry) (o : Option Row) → row_of w ≡ o → Some t ≡ option_map entry_of o → list_all (has_text w address) t.operands ≡ false → word_directive w ≡ labelled_disassembly f w address
  far_by t None is found far = absurd cc
  far_by t (Some r) is found far =
      let same : t ≡ entry_of r = cc in
      sym (by_row (Some r) is
      ∙ cond-false ((word_from r (fields r w) == w) && list_all (has_text w address) r.operands) (labelled_row_text f w address r) (word_directive w)
      (and_no (word_from r (fields r w) == w) _ (sym (ap (λ (x : Entry). list_all (has_text w address) x.operands) same) ∙ far)))
    where
      and_no : (a b : Bool) → b ≡ false → (a && b) ≡ false
      and_no true b e = e
      and_no false b e = refl

  other_by : (o : Option Row) → row_of w ≡ o → (canonical_of w ≡ Some w → ⊥) → word_directive w ≡ labelled_disassembly f w address
  other_by None is other = sym (by_row None is)
  other_by (Some r) is other =
      sym (by_row (Some r) is
      ∙ cond-false ((word_from r (fields r w) == w) && list_all (has_text w address) r.operands) (labelled_row_text f w address r) (word_directive w)
      (elim (cases_Bool (word_from r (fields r w) == w)) [
        | inl y ↦ absurd (other (canonical_row r is y))
        | inr n ↦ ap (λ b. b && list_all (has_text w address) r.operands) n
      ]))

  pub none_by : (o : Option Row) → row_of w ≡ o → None ≡ option_map entry_of o → word_directive w ≡ labelled_disassembly f w address
  none_by None is found = sym (by_row None is)
  none_by (Some r) is found = absurd cc

  pub spelled : (t : Entry) (b : Bool) → Some t ≡ option_map entry_of (row_of w) → (IsTrue b ↔ (canonical_of w ≡ Some w)) → b ≡ true → list_all (has_text w address) t.operands ≡ true → t.name ++ operands_after_name (map (labelled_operand f w address) t.operands) ≡ labelled_disassembly f w address
  spelled t b found own is near = spelled_by t (row_of w) refl found (own.0 is) near

  pub too_far : (t : Entry) → Some t ≡ option_map entry_of (row_of w) → list_all (has_text w address) t.operands ≡ false → word_directive w ≡ labelled_disassembly f w address
  too_far t found far = far_by t (row_of w) refl found far

  pub not_own : (b : Bool) → (IsTrue b ↔ (canonical_of w ≡ Some w)) → b ≡ false → word_directive w ≡ labelled_disassembly f w address
  not_own b own is = other_by (row_of w) refl (λ e. let yes : b ≡ true = own.1 e in let bad : true ≡ false = sym yes ∙ is in absurd cc)

  pub reserved : None ≡ option_map entry_of (row_of w) → word_directive w ≡ labelled_disassembly f w address
  reserved found = none_by (row_of w) refl found

-- ---- without labels

module _ (w address : ℕ) where
  plain_or_text : (o : Option ℕ) (text : List ℕ) → name_or_text (labels_in None) o text ≡ text
  plain_or_text None text = refl
  plain_or_text (Some t) text = refl

  plain_operands : (ks : List Operand) → map (labelled_operand (labels_in None) w address) ks ≡ map (operand_text w address) ks
  plain_operands [] = refl
  plain_operands (k ∷ ks) =
      ap (λ t. t ∷ map (labelled_operand (labels_in None) w address) ks) (plain_or_text (operand_target w address k) (operand_text w address k))
      ∙ ap (λ ts. operand_text w address k ∷ ts) (plain_operands ks)

  plain_row : (o : Option Row) → labelled_row (labels_in None) w address o ≡ row_disassembly w address o
  plain_row None = refl
  plain_row (Some r) = ap (λ ts. if (word_from r (fields r w) == w) && list_all (has_text w address) r.operands then r.name ++ operands_after_name ts else word_directive w) (plain_operands r.operands)

  pub without_labels : labelled_disassembly (labels_in None) w address ≡ disassembly w address
  unfolding labelled_disassembly disassembly
  without_labels = ap (λ t. if w == 0 then codes "nop" else t) (plain_row (row_of w))

-- ---- where a word leads

leads_by : (w address : ℕ) (t : Entry) (o : Option Row) → row_of w ≡ o → Some t ≡ option_map entry_of o → canonical_of w ≡ Some w → operands_target w address t.operands ≡ row_target w address o
unfolding canonical_of
leads_by w address t None is found own = absurd cc
leads_by w address t (Some r) is found own =
    let same : t ≡ entry_of r = cc in
    let whole : Some (word_from r (fields r w)) ≡ Some w = sym (ap (option_map (λ (x : Row). word_from x (fields x w))) is) ∙ own in
    ap (λ (x : Entry). operands_target w address x.operands) same
    ∙ sym (cond-true (word_from r (fields r w) == w) (operands_target w address r.operands) None (eq-eqb _ w cc))

pub leads : (w address : ℕ) (t : Entry) (b : Bool) → Some t ≡ option_map entry_of (row_of w) → (IsTrue b ↔ (canonical_of w ≡ Some w)) → b ≡ true → operands_target w address t.operands ≡ word_target w address
unfolding word_target
leads w address t b found own is = leads_by w address t (row_of w) refl found (own.0 is)

leads_nowhere_by : (w address : ℕ) (o : Option Row) → row_of w ≡ o → (canonical_of w ≡ Some w → ⊥) → None ≡ row_target w address o
unfolding canonical_of
leads_nowhere_by w address None is other = refl
leads_nowhere_by w address (Some r) is other = sym (cond-false (word_from r (fields r w) == w) (operands_target w address r.operands) None (elim (cases_Bool (word_from r (fields r w) == w)) [
  | inl y ↦ absurd (other (ap (option_map (λ (x : Row). word_from x (fields x w))) is ∙ ap Some (eqb-true _ w y)))
  | inr n ↦ n
]))

pub leads_nowhere : (w address : ℕ) (b : Bool) → (IsTrue b ↔ (canonical_of w ≡ Some w)) → b ≡ false → None ≡ word_target w address
unfolding word_target
leads_nowhere w address b own is = leads_nowhere_by w address (row_of w) refl (λ e. let yes : b ≡ true = own.1 e in let bad : true ≡ false = sym yes ∙ is in absurd cc)

reserved_by : (w address : ℕ) (o : Option Row) → row_of w ≡ o → None ≡ option_map entry_of o → None ≡ row_target w address o
reserved_by w address None is found = refl
reserved_by w address (Some r) is found = absurd cc

pub reserved_leads_nowhere : (w address : ℕ) → None ≡ option_map entry_of (row_of w) → None ≡ word_target w address
unfolding word_target
reserved_leads_nowhere w address found = reserved_by w address (row_of w) refl found
