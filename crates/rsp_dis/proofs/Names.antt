-- The names of the rows: each finds its row, and is one piece of text.
use Rattle.std.proofs.Common.{◌≡◌, refl, sym, ap, ◌∙◌, subst, ℕ, suc, ◌<◌, ◌≤◌, List, [], ◌∷◌, length, get_or, Bool, true, false, not, ◌&&◌, ◌||◌, arith, inl, inr}
use Rattle.std.specs.Prelude.{Some, ◌==◌, nat_le, find, option_map, codes}
use Rattle.std.specs.List.{list_all, All}
use Rattle.std.specs.Str.{str_eq_ignore_ascii_case}
use Rattle.std.proofs.lemmas.Bool.{cond-true, cond-false, not-true, cases_Bool, leb-true}
use Rattle.rsp_decode.specs.Table.{Row, rows, row_of, fits, is_row_operand}
use Rattle.rsp_syntax.proofs.TableSearch.{pairs_at, every_row, differ, name_found}
use Rattle.rsp_syntax.specs.Statement.{row_named, linking_row, no_operation, numbers_form, row_form, form_named}
use Rattle.rsp_dis.proofs.Pieces.{is_piece}

-- the index of a row that was found
place_of : (p : Row → Bool) (rs : List Row) (r : Row) → find p rs ≡ Some r → (i : ℕ) × (i < length rs) × (get_or rs i r ≡ r)
place_of p [] r e = absurd cc
place_of p (x ∷ xs) r e = elim (cases_Bool (p x)) [
  | inl t ↦ (0, omega arith, let same : Some x ≡ Some r = sym (cond-true (p x) (Some x) (find p xs) t) ∙ e in cc)
  | inr f ↦
      let there = place_of p xs r (sym (cond-false (p x) (Some x) (find p xs) f) ∙ e) in
      (suc there.0, omega arith, there.2)
]

pub names_differ : (i j : ℕ) (d : Row) → i < j → j < length rows → str_eq_ignore_ascii_case (get_or rows j d).name (get_or rows i d).name ≡ false
names_differ i j d lt inside = not-true _ (pairs_at differ rows i j d refl lt inside)

-- of the two statements beside the table
abbrev has_other_name : Row → Bool
has_other_name r = str_eq_ignore_ascii_case r.name (codes "nop") || str_eq_ignore_ascii_case r.name (codes ".word")

pub names_free : All (λ (r : Row). has_other_name r ≡ false) rows
names_free i d inside = not-true _ (every_row (λ r. not (has_other_name r)) i d inside refl)

module _ (w : ℕ) (r : Row) (row : row_of w ≡ Some r) where
  pub name_back : row_named r.name ≡ Some r
  unfolding row_of
  name_back =
      let there = place_of (fits w) rows r row in
      subst (λ (s : Row). row_named s.name ≡ Some s) there.2 (name_found there.0 r there.1)

  -- a test that every row passes
  row_passes : (t : Row → Bool) → list_all t rows ≡ true → t r ≡ true
  unfolding row_of
  row_passes t all =
      let there = place_of (fits w) rows r row in
      subst (λ (s : Row). t s ≡ true) there.2 (every_row t there.0 r there.1 all)

  pub name_piece : is_piece r.name ≡ true
  name_piece = row_passes (λ (s : Row). is_piece s.name) refl

  pub table_kinds : list_all is_row_operand r.operands ≡ true
  table_kinds = row_passes (λ (s : Row). list_all is_row_operand s.operands) refl

  pub few_operands : length r.operands ≤ 3
  few_operands = leb-true (length r.operands) 3 (row_passes (λ (s : Row). nat_le (length s.operands) 3) refl)

  -- no row is named as one of the two statements beside the table, nor reads `jalr` with one operand
  pub form_back : form_named r.name (length r.operands) ≡ Some (row_form r)
  form_back =
      cond-false (str_eq_ignore_ascii_case r.name (codes "nop")) (Some no_operation) _ (not-true _ (row_passes (λ (s : Row). not (str_eq_ignore_ascii_case s.name (codes "nop"))) refl))
      ∙ cond-false (str_eq_ignore_ascii_case r.name (codes ".word")) (Some numbers_form) _ (not-true _ (row_passes (λ (s : Row). not (str_eq_ignore_ascii_case s.name (codes ".word"))) refl))
      ∙ cond-false (str_eq_ignore_ascii_case r.name (codes "jalr") && (length r.operands == 1)) (Some (row_form linking_row)) _ (not-true _ (row_passes (λ (s : Row). not (str_eq_ignore_ascii_case s.name (codes "jalr") && (length s.operands == 1))) refl))
      ∙ ap (option_map row_form) name_back
