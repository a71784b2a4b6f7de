-- What a search of the code's rows finds: a row of the instruction table.
use Rattle.std.proofs.Common.{◌≡◌, refl, sym, ap, subst, ◌∙◌, ℕ, zero, suc, ◌<◌, List, [], ◌∷◌, length, get_or, Bool, true, not, ◌&&◌, inl, inr, arith}
use Rattle.std.specs.Prelude.{Some, None, map, find, option_map}
use Rattle.std.specs.List.{list_all}
use Rattle.std.specs.Str.{bytes_eq, str_to_ascii_lowercase, str_eq_ignore_ascii_case}
use Rattle.std.proofs.lemmas.Bool.{and_parts, cases_Bool, cond-true, cond-false, not-true}
use Rattle.std.proofs.lemmas.List.{length-map, get_or-map}
use Rattle.std.proofs.lemmas.List.Recursion.{found_at, and_at}
use Rattle.std.proofs.lemmas.Slice.Eq.{bytes_eq-Decides}
use Rattle.rsp_decode.specs.declared.rows.TableRow.{TableRow}
use Rattle.rsp_decode.specs.Table.{Row, rows, row_of, break_row, Entry, entry_of, entry}
use Rattle.rsp_syntax.specs.TableSearch.{has_name, is_selected}
use Rattle.rsp_syntax.specs.Statement.{row_named}

found_by : (p : Entry → Bool) (rs : List Row) → find p (map entry_of rs) ≡ option_map entry_of (find (λ (r : Row). p (entry_of r)) rs)
found_by p [] = refl
found_by p (r ∷ rs) = elim (cases_Bool (p (entry_of r))) [
  | inl y ↦
      cond-true (p (entry_of r)) (Some (entry_of r)) (find p (map entry_of rs)) y
      ∙ sym (ap (option_map entry_of) (cond-true (p (entry_of r)) (Some r) (find (λ (x : Row). p (entry_of x)) rs) y))
  | inr n ↦
      cond-false (p (entry_of r)) (Some (entry_of r)) (find p (map entry_of rs)) n
      ∙ found_by p rs
      ∙ sym (ap (option_map entry_of) (cond-false (p (entry_of r)) (Some r) (find (λ (x : Row). p (entry_of x)) rs) n))
]

pub named_row : (name : List ℕ) → find (has_name name) (map entry_of rows) ≡ option_map entry_of (row_named name)
unfolding row_named
named_row name = found_by (has_name name) rows

pub selected_row : (w : ℕ) → find (is_selected w) (map entry_of rows) ≡ option_map entry_of (row_of w)
unfolding row_of
selected_row w = found_by (is_selected w) rows

-- ---- the names of the rows

abbrev pub pairs_pass : (Row → Row → Bool) → List Row → Bool
pairs_pass t [] = true
pairs_pass t (r ∷ rs) = list_all (t r) rs && pairs_pass t rs

pub pairs_at : (t : Row → Row → Bool) (rs : List Row) (i j : ℕ) (d : Row) → pairs_pass t rs ≡ true → i < j → j < length rs → t (get_or rs i d) (get_or rs j d) ≡ true
pairs_at t [] i j d e lt inside = absurd (omega arith)
pairs_at t (r ∷ rs) i zero d e lt inside = absurd (omega arith)
pairs_at t (r ∷ rs) zero (suc j) d e lt inside = and_at (list_all (t r)) (t r) refl (λ _ _. refl) rs j d (omega arith) (and_parts _ _ e).0
pairs_at t (r ∷ rs) (suc i) (suc j) d e lt inside = pairs_at t rs i j d (and_parts _ _ e).1 (omega arith) (omega arith)

-- a test that every row passes
pub every_row : (t : Row → Bool) (i : ℕ) (d : Row) → i < length rows → list_all t rows ≡ true → t (get_or rows i d) ≡ true
every_row t i d inside all = and_at (list_all t) t refl (λ _ _. refl) rows i d inside all

-- a later name is another one
abbrev pub differ : Row → Row → Bool
differ a b = not (str_eq_ignore_ascii_case b.name a.name)

abbrev same_name : Row → Bool
same_name r = str_eq_ignore_ascii_case r.name r.name

pub name_found : (i : ℕ) (d : Row) → i < length rows → row_named (get_or rows i d).name ≡ Some (get_or rows i d)
unfolding row_named
name_found i d inside =
    let name = (get_or rows i d).name in
    let test : Row → Bool = λ (r : Row). str_eq_ignore_ascii_case name r.name in
    found_at (find test) test Some None refl (λ _ _. refl) rows i d inside
    (λ k lt. not-true _ (pairs_at differ rows k i d refl lt inside))
    (every_row same_name i d inside refl)

-- a row that has a name is what a search for the name finds
pub guessed : (name : List ℕ) (xs : List TableRow) (i : ℕ) (d : TableRow) → map entry xs ≡ map entry_of rows → i < length xs → has_name name (entry (get_or xs i d)) ≡ true → Some (entry (get_or xs i d)) ≡ option_map entry_of (row_named name)
unfolding row_named
guessed name xs i d same inside has =
    let within : i < length rows = omega (arith, inside, length-map xs entry, length-map rows entry_of, ap length same) in
    let r = get_or rows i break_row in
    let is : entry (get_or xs i d) ≡ entry_of r = sym (get_or-map entry xs i d (entry d) inside) ∙ ap (λ es. get_or es i (entry d)) same ∙ get_or-map entry_of rows i break_row (entry d) within in
    let lower = (bytes_eq-Decides (str_to_ascii_lowercase name) (str_to_ascii_lowercase r.name)).0 (subst (λ e. has_name name e ≡ true) is has) in
    ap Some is ∙ sym (ap (option_map entry_of) (ap (λ n. find (λ (s : Row). bytes_eq n (str_to_ascii_lowercase s.name)) rows) lower ∙ name_found i break_row within))
