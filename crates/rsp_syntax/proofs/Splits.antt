-- The parts of a text between bytes of one kind.
use Rattle.std.proofs.Common.{◌≡◌, refl, sym, ap, ◌∙◌, ℕ, ◌+◌, List, [], ◌∷◌, ◌++◌, length, true, not, arith}
use Rattle.std.specs.Prelude.{Bool, None}
use Rattle.std.specs.List.{slice_split, onto_first, before_first, after_first, position_or_len}
use Rattle.std.proofs.lemmas.Bool.{and_parts, cond-true, cond-false, not-true}
use Rattle.std.proofs.lemmas.List.{take_all, drop_all}
use Rattle.rsp_syntax.specs.declared.line_bytes.Boundary.TheVariants.{Blank}
use Rattle.rsp_syntax.specs.Cuts.{is_boundary, cut}
use Rattle.rsp_syntax.proofs.Cuts.{no, cut_nothing}

pub split_cons : (p : ℕ → Bool) (xs ys : List ℕ) (s : ℕ) → no p xs ≡ true → p s ≡ true → slice_split p (xs ++ s ∷ ys) ≡ xs ∷ slice_split p ys
split_cons p [] ys s a e = cond-true (p s) _ _ e
split_cons p (x ∷ xs) ys s a e =
    let both = and_parts _ _ a in
    cond-false (p x) _ _ (not-true (p x) both.0) ∙ ap (onto_first x) (split_cons p xs ys s both.1 e)

pub split_one : (p : ℕ → Bool) (xs : List ℕ) → no p xs ≡ true → slice_split p xs ≡ xs ∷ []
split_one p [] a = refl
split_one p (x ∷ xs) a = let both = and_parts _ _ a in cond-false (p x) _ _ (not-true (p x) both.0) ∙ ap (onto_first x) (split_one p xs both.1)

-- ---- a text without blanks

at_end : (p : ℕ → Bool) (xs : List ℕ) → no p xs ≡ true → position_or_len p xs ≡ length xs
at_end p [] a = refl
at_end p (x ∷ xs) a =
    let both = and_parts _ _ a in
    let r = at_end p xs both.1 in
    cond-true (not (p x)) (1 + position_or_len p xs) 0 both.0 ∙ omega arith

pub no_blank_before : (text : List ℕ) → None ≡ cut Blank text → text ≡ before_first (is_boundary Blank) text
no_blank_before text e = sym (take_all _ text (omega (arith, at_end (is_boundary Blank) text (cut_nothing Blank text e))))

pub no_blank_after : (text : List ℕ) → None ≡ cut Blank text → [] ≡ after_first (is_boundary Blank) text
no_blank_after text e = sym (drop_all _ text (omega (arith, at_end (is_boundary Blank) text (cut_nothing Blank text e))))
