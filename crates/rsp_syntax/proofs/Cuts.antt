-- Where a text is cut.
use Rattle.std.proofs.Common.{◌≡◌, refl, sym, ap, ◌∙◌, ℕ, ◌+◌, ◌<◌, List, [], ◌∷◌, ◌++◌, length, take, drop, get_or, Bool, true, false, not, ◌||◌, arith, drop-cons, add-one, length-append, suc, inl, inr, subst}
use Rattle.std.specs.Prelude.{Option, Some, None}
use Rattle.std.specs.List.{list_all, before_first, after_first, list_any, position_or_len}
use Rattle.std.proofs.lemmas.Bool.{and_parts, and_from, cond-true, cond-false, cases_Bool}
use Rattle.std.proofs.lemmas.List.{take_at, drop_at, append_assoc, take-append-drop}
use Rattle.rsp_syntax.specs.declared.line_bytes.Boundary.{Boundary}
use Rattle.rsp_syntax.specs.Cuts.{is_boundary, cut}

abbrev pub no : (ℕ → Bool) → List ℕ → Bool
no p bs = list_all (λ c. not (p c)) bs

pub position_at : (p : ℕ → Bool) (xs ys : List ℕ) (s : ℕ) → no p xs ≡ true → p s ≡ true → position_or_len p (xs ++ s ∷ ys) ≡ length xs
position_at p [] ys s a b = cond-false (not (p s)) (1 + position_or_len p ys) 0 (ap not b)
position_at p (x ∷ xs) ys s a b =
    let both = and_parts _ _ a in
    let r = position_at p xs ys s both.1 b in
    cond-true (not (p x)) (1 + position_or_len p (xs ++ s ∷ ys)) 0 both.0 ∙ omega arith

pub before_stop : (p : ℕ → Bool) (xs ys : List ℕ) (s : ℕ) → no p xs ≡ true → p s ≡ true → before_first p (xs ++ s ∷ ys) ≡ xs
before_stop p xs ys s a b = take_at xs (s ∷ ys) _ (sym (position_at p xs ys s a b))

pub after_stop : (p : ℕ → Bool) (xs ys : List ℕ) (s : ℕ) → no p xs ≡ true → p s ≡ true → after_first p (xs ++ s ∷ ys) ≡ ys
after_stop p xs ys s a b =
    let pos = position_at p xs ys s a b in
    ap (drop (position_or_len p (xs ++ s ∷ ys) + 1)) (sym (append_assoc xs (s ∷ []) ys))
    ∙ drop_at (xs ++ s ∷ []) ys _ (length-append xs (s ∷ []) ∙ omega arith)

pub any_at : (p : ℕ → Bool) (xs ys : List ℕ) (s : ℕ) → p s ≡ true → list_any p (xs ++ s ∷ ys) ≡ true
any_at p [] ys s b = ap (λ t. t || list_any p ys) b
any_at p (x ∷ xs) ys s b = ap (λ t. p x || t) (any_at p xs ys s b) ∙ or_true (p x)
  where
    or_true : (t : Bool) → (t || true) ≡ true
    or_true true = refl
    or_true false = refl

pub any_none : (p : ℕ → Bool) (xs : List ℕ) → no p xs ≡ true → list_any p xs ≡ false
any_none p [] a = refl
any_none p (x ∷ xs) a = let both = and_parts _ _ a in ap (λ t. t || list_any p xs) (not_false (p x) both.0) ∙ any_none p xs both.1
  where
    not_false : (t : Bool) → not t ≡ true → t ≡ false
    not_false true e = sym e
    not_false false e = refl

pub cut_none : (boundary : Boundary) (xs : List ℕ) → no (is_boundary boundary) xs ≡ true → cut boundary xs ≡ None
cut_none boundary xs a = cond-false (list_any (is_boundary boundary) xs) _ None (any_none (is_boundary boundary) xs a)

pub cut_between : (boundary : Boundary) (xs ys : List ℕ) (s : ℕ) → no (is_boundary boundary) xs ≡ true → is_boundary boundary s ≡ true → cut boundary (xs ++ s ∷ ys) ≡ Some (xs, ys)
cut_between boundary xs ys s a b =
    cond-true (list_any (is_boundary boundary) (xs ++ s ∷ ys)) _ None (any_at (is_boundary boundary) xs ys s b)
    ∙ (λ i. Some (before_stop (is_boundary boundary) xs ys s a b i, after_stop (is_boundary boundary) xs ys s a b i))

pub at_index : (xs : List ℕ) (i : ℕ) → i < length xs → take i xs ++ get_or xs i 0 ∷ drop (i + 1) xs ≡ xs
at_index xs i lt = ap (λ t. take i xs ++ t) (rw (add-one) (sym (drop-cons xs i 0 lt))) ∙ take-append-drop i xs

pub cut_here : (boundary : Boundary) (xs : List ℕ) (i : ℕ) → i < length xs → no (is_boundary boundary) (take i xs) ≡ true → is_boundary boundary (get_or xs i 0) ≡ true → cut boundary xs ≡ Some (take i xs, drop (i + 1) xs)
cut_here boundary xs i lt a b = ap (cut boundary) (sym (at_index xs i lt)) ∙ cut_between boundary (take i xs) (drop (i + 1) xs) (get_or xs i 0) a b

any_cases : (p : ℕ → Bool) (xs : List ℕ) → list_any p xs ≡ false → no p xs ≡ true
any_cases p [] e = refl
any_cases p (x ∷ xs) e = let both = neither (p x) (list_any p xs) e in and_from _ _ (ap not both.0) (any_cases p xs both.1)
  where
    neither : (a b : Bool) → (a || b) ≡ false → (a ≡ false) × (b ≡ false)
    neither true b e = absurd cc
    neither false b e = (refl, e)

-- the parts of a text that is cut: s stands between them
pub record IsCut (p : ℕ → Bool) (bs front back : List ℕ) : Type 0 where
  pub stop : ℕ
  pub stops_there : p stop ≡ true
  pub plain : no p front ≡ true
  pub whole : bs ≡ front ++ stop ∷ back

found_first : (p : ℕ → Bool) (bs : List ℕ) → list_any p bs ≡ true → IsCut p bs (before_first p bs) (after_first p bs)
found_first p [] e = absurd cc
found_first p (x ∷ xs) e = elim (cases_Bool (p x)) [
  | inl t ↦
      let z : position_or_len p (x ∷ xs) ≡ 0 = cond-false (not (p x)) (1 + position_or_len p xs) 0 (ap not t) in
      rw z (record { stop = x; stops_there = t; plain = refl; whole = refl })
  | inr f ↦
      let r = found_first p xs (sym (ap (λ b. b || list_any p xs) f) ∙ e) in
      let z : position_or_len p (x ∷ xs) ≡ suc (position_or_len p xs) = cond-true (not (p x)) (1 + position_or_len p xs) 0 (ap not f) ∙ omega arith in
      let w : xs ≡ take (position_or_len p xs) xs ++ r.stop ∷ drop (suc (position_or_len p xs)) xs = rw add-one at r.whole in
      rw (z, add-one) (record { stop = r.stop; stops_there = r.stops_there; plain = and_from _ _ (ap not f) r.plain; whole = ap (λ t. x ∷ t) w })
]

abbrev halves : Option (List ℕ × List ℕ) → List ℕ × List ℕ
halves None = ([], [])
halves (Some p) = p

pub cut_some : (boundary : Boundary) (bs front back : List ℕ) → Some (front, back) ≡ cut boundary bs → IsCut (is_boundary boundary) bs front back
cut_some boundary bs front back e = elim (cases_Bool (list_any (is_boundary boundary) bs)) [
  | inl t ↦
      let same : Some (front, back) ≡ Some (before_first (is_boundary boundary) bs, after_first (is_boundary boundary) bs) = e ∙ cond-true _ _ None t in
      let a : before_first (is_boundary boundary) bs ≡ front = ap (λ o. (halves o).0) (sym same) in
      let b : after_first (is_boundary boundary) bs ≡ back = ap (λ o. (halves o).1) (sym same) in
      subst (λ f. IsCut (is_boundary boundary) bs f back) a (subst (λ k. IsCut (is_boundary boundary) bs (before_first (is_boundary boundary) bs) k) b (found_first (is_boundary boundary) bs t))
  | inr f ↦ absurd (let bad : Some (front, back) ≡ None = e ∙ cond-false _ (Some (before_first (is_boundary boundary) bs, after_first (is_boundary boundary) bs)) None f in cc)
]

pub cut_nothing : (boundary : Boundary) (bs : List ℕ) → None ≡ cut boundary bs → no (is_boundary boundary) bs ≡ true
cut_nothing boundary bs e = elim (cases_Bool (list_any (is_boundary boundary) bs)) [
  | inl t ↦ absurd (let bad : None ≡ Some (before_first (is_boundary boundary) bs, after_first (is_boundary boundary) bs) = e ∙ cond-true _ _ None t in cc)
  | inr f ↦ any_cases (is_boundary boundary) bs f
]
