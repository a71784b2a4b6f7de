-- The first row of a list whose key passes a test.
use Rattle.std.proofs.Common.{◌≡◌, ℕ, ◌+◌, ◌<◌, List, Bool, true, false, length, get_or, drop, add-one, drop-cons, refl, ap, ◌∙◌, ◌∷◌, ◌||◌}
use Rattle.std.specs.Prelude.{Some, map, cond}
use Rattle.std.specs.Bool.{Decides}
use Rattle.std.specs.Char.{to_ascii_lowercase}
use Rattle.std.specs.List.{find, list_any}
use Rattle.std.specs.Str.{str_eq_ignore_ascii_case}
use Rattle.std.proofs.lemmas.Bool.Decides.{same_from_decides}
use Rattle.std.proofs.lemmas.Slice.Eq.{bytes_eq-Decides}

-- a comparison in either case is that of the definitions
pub same_names : (r : Bool) (a b : List ℕ) → Decides r (map to_ascii_lowercase a ≡ map to_ascii_lowercase b) → r ≡ str_eq_ignore_ascii_case a b
same_names r a b d = same_from_decides r (str_eq_ignore_ascii_case a b) d (bytes_eq-Decides (map to_ascii_lowercase a) (map to_ascii_lowercase b))

module _ {A K : Type 0} (key : A → K) (p : K → Bool) (rows : List A) (i : ℕ) (d : A) (h : i < length rows) where
  from_here : map key (drop i rows) ≡ key (get_or rows i d) ∷ map key (drop (i + 1) rows)
  from_here = rw (add-one, drop-cons rows i d) refl

  pub find_here : p (key (get_or rows i d)) ≡ true → find p (map key (drop i rows)) ≡ Some (key (get_or rows i d))
  find_here e = ap (find p) from_here ∙ ap (λ b. cond b (Some (key (get_or rows i d))) (find p (map key (drop (i + 1) rows)))) e

  pub find_more : p (key (get_or rows i d)) ≡ false → find p (map key (drop i rows)) ≡ find p (map key (drop (i + 1) rows))
  find_more e = ap (find p) from_here ∙ ap (λ b. cond b (Some (key (get_or rows i d))) (find p (map key (drop (i + 1) rows)))) e

  pub any_here : p (key (get_or rows i d)) ≡ true → list_any p (map key (drop i rows)) ≡ true
  any_here e = ap (list_any p) from_here ∙ ap (λ b. b || list_any p (map key (drop (i + 1) rows))) e

  pub any_more : p (key (get_or rows i d)) ≡ false → list_any p (map key (drop i rows)) ≡ list_any p (map key (drop (i + 1) rows))
  any_more e = ap (list_any p) from_here ∙ ap (λ b. b || list_any p (map key (drop (i + 1) rows))) e
