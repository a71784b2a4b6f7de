-- Texts that stand for one operand or one name: of some bytes, at most 20, each of them quiet.
use Rattle.std.proofs.Common.{◌≡◌, refl, ◌∙◌, ℕ, ◌<◌, ◌≤◌, List, [], ◌∷◌, ◌++◌, length, Bool, true, ◌&&◌}
use Rattle.std.specs.Prelude.{nat_lt, nat_le}
use Rattle.std.specs.List.{list_all}
use Rattle.std.proofs.lemmas.Bool.{and_parts, and_from, ltb-true, leb-true, lt-ltb, le-leb}
use Rattle.std.proofs.lemmas.List.Folds.{list_all-append}
use Rattle.rsp_dis.specs.NoSeparators.{is_no_separator}

abbrev pub is_piece : List ℕ → Bool
is_piece bs = nat_lt 0 (length bs) && (nat_le (length bs) 20 && list_all is_no_separator bs)

pub record Piece (bs : List ℕ) : Type 0 where
  pub some : 0 < length bs
  pub short : length bs ≤ 20
  pub all : list_all is_no_separator bs ≡ true

pub piece_from : (bs : List ℕ) → is_piece bs ≡ true → Piece bs
piece_from bs e =
    let a = and_parts (nat_lt 0 (length bs)) (nat_le (length bs) 20 && list_all is_no_separator bs) e in
    let b = and_parts (nat_le (length bs) 20) (list_all is_no_separator bs) a.1 in
    record { some = ltb-true _ _ a.0; short = leb-true _ _ b.0; all = b.1 }

pub piece_of : (bs : List ℕ) → 0 < length bs → length bs ≤ 20 → list_all is_no_separator bs ≡ true → is_piece bs ≡ true
piece_of bs some short all = and_from _ _ (lt-ltb _ _ some) (and_from _ _ (le-leb _ _ short) all)

abbrev pub Pieces : List (List ℕ) → Type 0
Pieces ts = list_all is_piece ts ≡ true

-- ---- tests of each byte

pub all_append : (t : ℕ → Bool) (xs ys : List ℕ) → list_all t xs ≡ true → list_all t ys ≡ true → list_all t (xs ++ ys) ≡ true
all_append t xs ys a b = list_all-append t xs ys ∙ and_from _ _ a b

pub weaker : (p q : ℕ → Bool) → ((c : ℕ) → p c ≡ true → q c ≡ true) → (bs : List ℕ) → list_all p bs ≡ true → list_all q bs ≡ true
weaker p q h [] e = refl
weaker p q h (c ∷ cs) e = let both = and_parts (p c) (list_all p cs) e in and_from _ _ (h c both.0) (weaker p q h cs both.1)
