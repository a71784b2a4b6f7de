-- One step of a search through a table.
use Rattle.std.proofs.Common.{◌≡◌, ap, ◌∙◌, ℕ, ◌+◌, ◌<◌, List, ◌∷◌, length, drop, get_or, Bool, true, false, drop-cons, add-one, Bor, arith}
use Rattle.std.specs.Prelude.{map, Some, IsTrue, ◌↔◌}
use Rattle.std.specs.Str.{bytes_eq}
use Rattle.std.proofs.lemmas.Slice.Eq.{bytes_eq-Decides}
use Rattle.std.proofs.lemmas.Grind.{common_steps}
use Rattle.std.specs.Str.{str_eq_ignore_ascii_case}
use Rattle.std.proofs.lemmas.Bool.{cond-true, cond-false}
use Rattle.rsp_syntax.specs.Names.{look_up}

abbrev pub seen : Bor (List ℕ) × ℕ → List ℕ × ℕ
seen e = (e.0.now, e.1)

pub at_index : {A : Type 0} (xs : List A) (i : ℕ) (d : A) → i < length xs → drop i xs ≡ get_or xs i d ∷ drop (i + 1) xs
at_index xs i d lt = rw (add-one) (drop-cons xs i d lt)

pub look_up_here : (xs : List (Bor (List ℕ) × ℕ)) (i : ℕ) (d : Bor (List ℕ) × ℕ) (bs : List ℕ) → i < length xs → str_eq_ignore_ascii_case bs (get_or xs i d).0.now ≡ true → look_up (map seen (drop i xs)) bs ≡ Some (get_or xs i d).1
look_up_here xs i d bs lt e = ap (λ t. look_up (map seen t) bs) (at_index xs i d lt) ∙ cond-true (str_eq_ignore_ascii_case bs (get_or xs i d).0.now) _ _ e

pub look_up_more : (xs : List (Bor (List ℕ) × ℕ)) (i : ℕ) (d : Bor (List ℕ) × ℕ) (bs : List ℕ) → i < length xs → str_eq_ignore_ascii_case bs (get_or xs i d).0.now ≡ false → look_up (map seen (drop i xs)) bs ≡ look_up (map seen (drop (i + 1) xs)) bs
look_up_more xs i d bs lt e = ap (λ t. look_up (map seen t) bs) (at_index xs i d lt) ∙ cond-false (str_eq_ignore_ascii_case bs (get_or xs i d).0.now) _ _ e

-- a test that holds exactly where two texts are the same
pub same_answer : (r : Bool) (xs ys : List ℕ) → (IsTrue r ↔ (xs ≡ ys)) → r ≡ bytes_eq xs ys
same_answer r xs ys h = grind (arith, common_steps, bytes_eq-Decides xs ys)
