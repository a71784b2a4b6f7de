-- No word fits two rows.
use Rattle.std.proofs.Common.{◌≡◌, refl, ℕ, zero, suc, ◌<◌, List, [], ◌∷◌, length, get_or, Bool, true, not, ◌&&◌, arith}
use Rattle.std.specs.List.{list_all}
use Rattle.std.proofs.lemmas.List.Recursion.{and_at}
use Rattle.std.proofs.lemmas.Bool.{eqb-true, eqb-false, not-true, and_parts}
use Rattle.rsp_decode.specs.Table.{Row, rows, fits}
use Rattle.rsp_decode.proofs.Keys.{may_have, common}

-- two rows differ in a bit of both masks
abbrev pub differ : Row → Row → Bool
differ a b = not (may_have a.mask a.value b)

abbrev pub pairs_pass : (Row → Row → Bool) → List Row → Bool
pairs_pass t [] = true
pairs_pass t (r ∷ rs) = list_all (t r) rs && pairs_pass t rs

pairs_at : (t : Row → Row → Bool) (rs : List Row) (i j : ℕ) (d : Row) → pairs_pass t rs ≡ true → i < j → j < length rs → t (get_or rs i d) (get_or rs j d) ≡ true
pairs_at t [] i j d e lt inside = absurd (omega arith)
pairs_at t (r ∷ rs) i zero d e lt inside = absurd (omega arith)
pairs_at t (r ∷ rs) zero (suc j) d e lt inside = and_at (list_all (t r)) (t r) refl (λ _ _. refl) rs j d (omega arith) (and_parts _ _ e).0
pairs_at t (r ∷ rs) (suc i) (suc j) d e lt inside = pairs_at t rs i j d (and_parts _ _ e).1 (omega arith) (omega arith)

pub one_row : (w i j : ℕ) (d : Row) → i < j → j < length rows → fits w (get_or rows i d) ≡ true → fits w (get_or rows j d) ≡ true → ⊥
one_row w i j d lt inside first second =
    let a = get_or rows i d in
    let b = get_or rows j d in
    let apart : differ a b ≡ true = pairs_at differ rows i j d refl lt inside in
    eqb-false _ _ (not-true _ apart) (common w a.mask b.mask a.value b.value (eqb-true _ _ first) (eqb-true _ _ second))
