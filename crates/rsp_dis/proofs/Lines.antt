-- A line of a name and operands, each of them one piece of text: its parts and its statement.
use Rattle.std.proofs.Common.{◌≡◌, refl, sym, ap, ◌∙◌, subst, ◌*◌, ◌<◌, ◌≤◌, List, [], ◌∷◌, ◌++◌, length, reverse, ℕ, Bool, true, false, not, ◌&&◌, ◌||◌, arith}
use Rattle.std.specs.Prelude.{Some, None, ◌==◌, nat_le, map, Ok}
use Rattle.std.specs.List.{list_all, after_first, slice_split}
use Rattle.std.proofs.lemmas.Bool.{and_parts, and_from, cond-true, cond-false, ne_eqb, le-leb, not-true}
use Rattle.std.proofs.lemmas.Bool.Decides.{nat_tests}
use Rattle.std.proofs.lemmas.List.{append_assoc, append-nil, length-append, reverse-append, reverse-reverse}
use Rattle.rsp_syntax.specs.declared.line_bytes.Boundary.TheVariants.{Blank, Colon, Comma, Comment}
use Rattle.rsp_syntax.specs.Chars.{is_blank, is_line_byte, skip_blanks, trim}
use Rattle.rsp_syntax.specs.Cuts.{is_boundary, cut}
use Rattle.rsp_syntax.specs.Chars.{is_line}
use Rattle.rsp_syntax.specs.SourceLine.{part_before, without_comment, labelled_parts, split_line}
use Rattle.rsp_syntax.specs.Statement.{nothing, statement_of, statement_with, operand_texts}
use Rattle.rsp_syntax.specs.Disassembly.{more_operands, operands_after_name}
use Rattle.rsp_syntax.proofs.Cuts.{no, cut_none, before_stop, after_stop}
use Rattle.rsp_syntax.proofs.Splits.{split_cons, split_one, no_blank_before, no_blank_after}
use Rattle.rsp_dis.specs.NoSeparators.{is_no_separator}
use Rattle.rsp_dis.proofs.Pieces.{is_piece, Piece, piece_from, Pieces, all_append, weaker}

-- ---- bytes

-- a byte of a line without a label or a comment
abbrev of_line : ℕ → Bool
of_line c = is_line_byte c && not (is_boundary Colon c || is_boundary Comment c)

quiet_of_line : (c : ℕ) → is_no_separator c ≡ true → of_line c ≡ true
quiet_of_line c e = grind (arith, nat_tests)

quiet_no_blank : (c : ℕ) → is_no_separator c ≡ true → not (is_boundary Blank c) ≡ true
quiet_no_blank c e = grind (arith, nat_tests)

quiet_no_comma : (c : ℕ) → is_no_separator c ≡ true → not (is_boundary Comma c) ≡ true
quiet_no_comma c e = grind (arith, nat_tests)

line_no_comment : (c : ℕ) → of_line c ≡ true → not (is_boundary Comment c) ≡ true
line_no_comment c e = grind (arith, nat_tests)

line_no_colon : (c : ℕ) → of_line c ≡ true → not (is_boundary Colon c) ≡ true
line_no_colon c e = grind (arith, nat_tests)

line_plain : (c : ℕ) → of_line c ≡ true → is_line_byte c ≡ true
line_plain c e = grind (arith, nat_tests)

-- ---- no blank at either end

record Ends (bs : List ℕ) : Type 0 where
  front : List ℕ
  last : ℕ
  whole : bs ≡ front ++ last ∷ []
  plain : is_blank last ≡ false

no_blank : (c : ℕ) → is_no_separator c ≡ true → is_blank c ≡ false
no_blank c e = not-true _ (quiet_no_blank c e)

ends_quiet : (c : ℕ) (cs : List ℕ) → list_all is_no_separator (c ∷ cs) ≡ true → Ends (c ∷ cs)
ends_quiet c [] e = record { front = []; last = c; whole = refl; plain = no_blank c (and_parts (is_no_separator c) true e).0 }
ends_quiet c (d ∷ ds) e =
    let r = ends_quiet d ds (and_parts (is_no_separator c) (list_all is_no_separator (d ∷ ds)) e).1 in
    record { front = c ∷ r.front; last = r.last; whole = ap (λ t. c ∷ t) r.whole; plain = r.plain }

ends_piece : (bs : List ℕ) → Piece bs → Ends bs
ends_piece [] p = absurd (let h = p.some in omega arith)
ends_piece (c ∷ cs) p = ends_quiet c cs p.all

ends_behind : (xs ys : List ℕ) → Ends ys → Ends (xs ++ ys)
ends_behind xs ys e = record { front = xs ++ e.front; last = e.last; whole = ap (λ t. xs ++ t) e.whole ∙ sym (append_assoc xs e.front (e.last ∷ [])); plain = e.plain }

skip_last : (bs : List ℕ) → Ends bs → skip_blanks (reverse bs) ≡ reverse bs
skip_last bs e =
    let turned : reverse bs ≡ e.last ∷ reverse e.front = ap reverse e.whole ∙ reverse-append e.front (e.last ∷ []) in
    ap skip_blanks turned ∙ cond-false (is_blank e.last) (skip_blanks (reverse e.front)) (e.last ∷ reverse e.front) e.plain ∙ sym turned

trim_ends : (c : ℕ) (cs : List ℕ) → is_no_separator c ≡ true → Ends (c ∷ cs) → trim (c ∷ cs) ≡ c ∷ cs
trim_ends c cs q e =
    ap (λ t. reverse (skip_blanks (reverse t))) (cond-false (is_blank c) (skip_blanks cs) (c ∷ cs) (no_blank c q))
    ∙ ap reverse (skip_last (c ∷ cs) e)
    ∙ reverse-reverse (c ∷ cs)

trim_piece : (bs : List ℕ) → Piece bs → trim bs ≡ bs
trim_piece [] p = refl
trim_piece (c ∷ cs) p = trim_ends c cs (and_parts (is_no_separator c) (list_all is_no_separator cs) p.all).0 (ends_quiet c cs p.all)

-- ---- operands between commas

no_comma : (bs : List ℕ) → list_all is_no_separator bs ≡ true → no (is_boundary Comma) bs ≡ true
no_comma bs e = weaker is_no_separator (λ c. not (is_boundary Comma c)) quiet_no_comma bs e

split_pieces : (t : List ℕ) (ts : List (List ℕ)) → no (is_boundary Comma) t ≡ true → Pieces ts → slice_split (is_boundary Comma) (t ++ more_operands ts) ≡ t ∷ map (λ u. 32 ∷ u) ts
split_pieces t [] plain ps = ap (slice_split (is_boundary Comma)) (append-nil t) ∙ split_one (is_boundary Comma) t plain
split_pieces t (u ∷ us) plain ps =
    let both = and_parts (is_piece u) (list_all is_piece us) ps in
    split_cons (is_boundary Comma) t (32 ∷ (u ++ more_operands us)) 44 plain refl
    ∙ ap (λ x. t ∷ x) (split_pieces (32 ∷ u) us (no_comma u (piece_from u both.0).all) both.1)

trim_pieces : (ts : List (List ℕ)) → Pieces ts → map trim (map (λ u. 32 ∷ u) ts) ≡ ts
trim_pieces [] ps = refl
trim_pieces (t ∷ ts) ps =
    let both = and_parts (is_piece t) (list_all is_piece ts) ps in
    ap (λ x. x ∷ map trim (map (λ u. 32 ∷ u) ts)) (trim_piece t (piece_from t both.0)) ∙ ap (λ x. t ∷ x) (trim_pieces ts both.1)

texts_back : (t : List ℕ) (ts : List (List ℕ)) → Pieces (t ∷ ts) → operand_texts (t ++ more_operands ts) ≡ t ∷ ts
texts_back t ts ps =
    let both = and_parts (is_piece t) (list_all is_piece ts) ps in
    let p = piece_from t both.0 in
    let long = length-append t (more_operands ts) in
    let some : 0 < length t = p.some in
    cond-false (length (t ++ more_operands ts) == 0) [] _ (ne_eqb _ 0 (λ e. omega arith))
    ∙ ap (map trim) (split_pieces t ts (no_comma t p.all) both.1)
    ∙ ap (λ x. x ∷ map trim (map (λ u. 32 ∷ u) ts)) (trim_piece t p)
    ∙ ap (λ x. t ∷ x) (trim_pieces ts both.1)

-- ---- the line

name_no_blank : (name : List ℕ) → Piece name → no (is_boundary Blank) name ≡ true
name_no_blank name p = weaker is_no_separator (λ c. not (is_boundary Blank c)) quiet_no_blank name p.all

-- the statement of such a line
pub statement_back : (name : List ℕ) (ts : List (List ℕ)) → Piece name → Pieces ts → statement_of (name ++ operands_after_name ts) ≡ statement_with name ts
statement_back name [] p ps =
    let plain = name_no_blank name p in
    let some : 0 < length name = p.some in
    let uncut = sym (cut_none Blank name plain) in
    ap statement_of (append-nil name)
    ∙ cond-false (length name == 0) (Ok nothing) _ (ne_eqb _ 0 (λ e. omega arith))
    ∙ ap (λ n. statement_with n (operand_texts (after_first (is_boundary Blank) name))) (sym (no_blank_before name uncut))
    ∙ ap (λ a. statement_with name (operand_texts a)) (sym (no_blank_after name uncut))
statement_back name (t ∷ ts) p ps =
    let plain = name_no_blank name p in
    let some : 0 < length name = p.some in
    let long = length-append name (operands_after_name (t ∷ ts)) in
    let line = name ++ operands_after_name (t ∷ ts) in
    cond-false (length line == 0) (Ok nothing) _ (ne_eqb _ 0 (λ e. omega arith))
    ∙ ap (λ n. statement_with n (operand_texts (after_first (is_boundary Blank) line))) (before_stop (is_boundary Blank) name (t ++ more_operands ts) 32 plain refl)
    ∙ ap (λ a. statement_with name (operand_texts a)) (after_stop (is_boundary Blank) name (t ++ more_operands ts) 32 plain refl)
    ∙ ap (statement_with name) (texts_back t ts ps)

more_of_line : (ts : List (List ℕ)) → Pieces ts → list_all of_line (more_operands ts) ≡ true
more_of_line [] ps = refl
more_of_line (t ∷ ts) ps =
    let both = and_parts (is_piece t) (list_all is_piece ts) ps in
    all_append of_line t (more_operands ts) (weaker is_no_separator of_line quiet_of_line t (piece_from t both.0).all) (more_of_line ts both.1)

behind_of_line : (ts : List (List ℕ)) → Pieces ts → list_all of_line (operands_after_name ts) ≡ true
behind_of_line [] ps = refl
behind_of_line (t ∷ ts) ps = more_of_line (t ∷ ts) ps

more_short : (ts : List (List ℕ)) → Pieces ts → length (more_operands ts) ≤ 22 * length ts
more_short [] ps = omega arith
more_short (t ∷ ts) ps =
    let both = and_parts (is_piece t) (list_all is_piece ts) ps in
    let here : length t ≤ 20 = (piece_from t both.0).short in
    let rest = more_short ts both.1 in
    let long = length-append t (more_operands ts) in
    omega arith

behind_short : (ts : List (List ℕ)) → Pieces ts → length (operands_after_name ts) ≤ 22 * length ts
behind_short [] ps = omega arith
behind_short (t ∷ ts) ps = let h = more_short (t ∷ ts) ps in omega arith

more_ends : (t : List ℕ) (ts : List (List ℕ)) → Pieces (t ∷ ts) → Ends (t ++ more_operands ts)
more_ends t [] ps =
    let both = and_parts (is_piece t) true ps in
    subst Ends (sym (append-nil t)) (ends_piece t (piece_from t both.0))
more_ends t (u ∷ us) ps =
    let both = and_parts (is_piece t) (list_all is_piece (u ∷ us)) ps in
    ends_behind t (more_operands (u ∷ us)) (ends_behind (44 ∷ 32 ∷ []) (u ++ more_operands us) (more_ends u us both.1))

line_ends : (name : List ℕ) (ts : List (List ℕ)) → Piece name → Pieces ts → Ends (name ++ operands_after_name ts)
line_ends name [] p ps = subst Ends (sym (append-nil name)) (ends_piece name p)
line_ends name (t ∷ ts) p ps = ends_behind name (operands_after_name (t ∷ ts)) (ends_behind (32 ∷ []) (t ++ more_operands ts) (more_ends t ts ps))

trim_line : (name : List ℕ) (rest : List ℕ) → Piece name → Ends (name ++ rest) → trim (name ++ rest) ≡ name ++ rest
trim_line [] rest p e = absurd (let h = p.some in omega arith)
trim_line (c ∷ cs) rest p e = trim_ends c (cs ++ rest) (and_parts (is_no_separator c) (list_all is_no_separator cs) p.all).0 e

line_bytes : (name : List ℕ) (ts : List (List ℕ)) → Piece name → Pieces ts → list_all of_line (name ++ operands_after_name ts) ≡ true
line_bytes name ts p ps = all_append of_line name (operands_after_name ts) (weaker is_no_separator of_line quiet_of_line name p.all) (behind_of_line ts ps)

pub line_is_plain : (name : List ℕ) (ts : List (List ℕ)) → Piece name → Pieces ts → list_all is_line_byte (name ++ operands_after_name ts) ≡ true
line_is_plain name ts p ps = weaker of_line is_line_byte line_plain (name ++ operands_after_name ts) (line_bytes name ts p ps)

pub parts_back : (name : List ℕ) (ts : List (List ℕ)) → Piece name → Pieces ts → length ts ≤ 3 → split_line (name ++ operands_after_name ts) ≡ Some (record { label = None; body = name ++ operands_after_name ts })
parts_back name ts p ps few =
    let line = name ++ operands_after_name ts in
    let bytes = line_bytes name ts p ps in
    let long = length-append name (operands_after_name ts) in
    let a = behind_short ts ps in
    let b : length name ≤ 20 = p.short in
    let good : is_line line ≡ true = and_from (nat_le (length line) 256) (list_all is_line_byte line) (le-leb _ _ (omega arith)) (line_is_plain name ts p ps) in
    let code : without_comment line ≡ line =
    ap (λ o. trim (part_before o line)) (cut_none Comment line (weaker of_line (λ c. not (is_boundary Comment c)) line_no_comment line bytes))
    ∙ trim_line name (operands_after_name ts) p (line_ends name ts p ps) in
    cond-true (is_line line) (labelled_parts (cut Colon (without_comment line)) (without_comment line)) None good
    ∙ ap (λ t. labelled_parts (cut Colon t) t) code
    ∙ ap (λ o. labelled_parts o line) (cut_none Colon line (weaker of_line (λ c. not (is_boundary Colon c)) line_no_colon line bytes))
