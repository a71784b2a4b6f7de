-- The lines of a text.
use Rattle.std.proofs.Common.{◌≡◌, refl, sym, ap, ◌∙◌, ℕ, ◌-◌, ◌<◌, List, [], ◌∷◌, ◌++◌, length, get_or, true, false, not, arith, inl, inr}
use Rattle.std.specs.Prelude.{◌==◌, Bool}
use Rattle.std.specs.List.{list_all, slice_split}
use Rattle.std.specs.Str.Lines.{lines, lines_of_parts, strip_carriage_return}
use Rattle.std.proofs.lemmas.Bool.{and_parts, and_from, ne_eqb, cond-false, cases_Bool, false≢true}
use Rattle.std.proofs.lemmas.Bool.Decides.{nat_tests}
use Rattle.std.proofs.lemmas.List.{append_assoc}
use Rattle.std.proofs.lemmas.List.Concat.{flat_map-cons}
use Rattle.std.proofs.lemmas.List.Folds.{list_all_at}
use Rattle.std.proofs.lemmas.List.Splits.{length-slice_split}
use Rattle.rsp_syntax.specs.Chars.{is_line_byte}
use Rattle.rsp_syntax.specs.SourceLine.{text_of_lines}
use Rattle.rsp_syntax.proofs.Cuts.{no}
use Rattle.rsp_syntax.proofs.Splits.{split_cons, split_one}

abbrev is_newline : ℕ → Bool
is_newline b = b == 10

parts-cons : (x : List ℕ) (parts : List (List ℕ)) → 0 < length parts → lines_of_parts (x ∷ parts) ≡ strip_carriage_return x ∷ lines_of_parts parts
parts-cons x [] l = absurd (omega arith)
parts-cons x (y ∷ more) l = refl

pub first_line : (xs ys : List ℕ) (s : ℕ) → no (λ b. b == 10) xs ≡ true → (s == 10) ≡ true → lines (xs ++ s ∷ ys) ≡ strip_carriage_return xs ∷ lines ys
first_line xs ys s a e =
    ap lines_of_parts (split_cons is_newline xs ys s a e)
    ∙ parts-cons xs (slice_split is_newline ys) (omega (arith, length-slice_split is_newline ys))

pub last_line : (xs : List ℕ) → no (λ b. b == 10) xs ≡ true → 0 < length xs → lines xs ≡ xs ∷ []
last_line xs a some = ap lines_of_parts (split_one is_newline xs a) ∙ cond-false (length xs == 0) _ _ (ne_eqb (length xs) 0 (λ z. omega arith))

-- ---- plain lines

no_newline : (c : ℕ) → is_line_byte c ≡ true → not (c == 10) ≡ true
no_newline c e = grind (arith, nat_tests)

no_return : (c : ℕ) → is_line_byte c ≡ true → (c == 13) ≡ false
no_return c e = grind (arith, nat_tests)

no_newlines : (xs : List ℕ) → list_all is_line_byte xs ≡ true → no (λ b. b == 10) xs ≡ true
no_newlines [] e = refl
no_newlines (x ∷ xs) e = let both = and_parts _ _ e in and_from _ _ (no_newline x both.0) (no_newlines xs both.1)

last_plain : (xs : List ℕ) → list_all is_line_byte xs ≡ true → (get_or xs (length xs - 1) 0 == 13) ≡ false
last_plain [] e = refl
last_plain (x ∷ xs) e = elim (cases_Bool (is_line_byte (get_or (x ∷ xs) (length (x ∷ xs) - 1) 0))) [
  | inl t ↦ no_return _ t
  | inr f ↦ absurd (false≢true (sym (list_all_at is_line_byte (x ∷ xs) (length (x ∷ xs) - 1) 0 (omega arith) f) ∙ e))
]

first_plain : (xs ys : List ℕ) → list_all is_line_byte xs ≡ true → lines (xs ++ 10 ∷ ys) ≡ xs ∷ lines ys
first_plain xs ys e =
    first_line xs ys 10 (no_newlines xs e) refl
    ∙ ap (λ t. t ∷ lines ys) (cond-false (get_or xs (length xs - 1) 0 == 13) _ xs (last_plain xs e))

pub lines_back : (ls : List (List ℕ)) → list_all (list_all is_line_byte) ls ≡ true → lines (text_of_lines ls) ≡ ls
lines_back [] e = refl
lines_back (l ∷ ls) e =
    let both = and_parts _ _ e in
    ap lines (flat_map-cons (λ l. l ++ 10 ∷ []) l ls ∙ append_assoc l (10 ∷ []) (text_of_lines ls))
    ∙ first_plain l (text_of_lines ls) both.0
    ∙ ap (λ t. l ∷ t) (lines_back ls both.1)
