-- A text of plain lines, and what a line more makes of it.
use Rattle.std.proofs.Common.{◌≡◌, refl, sym, ap, ◌∙◌, ℕ, List, [], ◌∷◌, ◌++◌, true, subst}
use Rattle.std.specs.Prelude.{Result, Ok, Err, OnOk, OnErr}
use Rattle.std.specs.List.{list_all}
use Rattle.std.specs.Str.Lines.{lines}
use Rattle.std.proofs.lemmas.Bool.{and_from}
use Rattle.std.proofs.lemmas.List.{append_assoc, append-nil}
use Rattle.std.proofs.lemmas.List.Concat.{flat_map-append, flat_map-cons}
use Rattle.std.proofs.lemmas.List.Folds.{list_all-append}
use Rattle.rsp_syntax.specs.Chars.{is_line_byte}
use Rattle.rsp_syntax.specs.SourceLine.{text_of_lines}
use Rattle.rsp_syntax.proofs.TextLines.{lines_back}
use Rattle.rsp_asm.specs.Block.{IsText}

pub one_more : (text line : List ℕ) → IsText text → list_all is_line_byte line ≡ true → (lines (text ++ line ++ 10 ∷ []) ≡ lines text ++ line ∷ []) × IsText (text ++ line ++ 10 ∷ [])
one_more text line t e =
    let ls = lines text in
    let last : text_of_lines (line ∷ []) ≡ line ++ 10 ∷ [] = flat_map-cons (λ l. l ++ 10 ∷ []) line [] ∙ append-nil (line ++ 10 ∷ []) in
    let same : text ++ line ++ 10 ∷ [] ≡ text_of_lines (ls ++ line ∷ []) =
    append_assoc text line (10 ∷ []) ∙ ap (λ x. x ++ (line ++ 10 ∷ [])) t.whole ∙ ap (λ x. text_of_lines ls ++ x) (sym last) ∙ sym (flat_map-append (λ l. l ++ 10 ∷ []) ls (line ∷ [])) in
    let all_plain : list_all (list_all is_line_byte) (ls ++ line ∷ []) ≡ true = list_all-append _ ls (line ∷ []) ∙ and_from _ _ t.plain (and_from _ _ e refl) in
    let back : lines (text ++ line ++ 10 ∷ []) ≡ ls ++ line ∷ [] = ap lines same ∙ lines_back (ls ++ line ∷ []) all_plain in
    (back, record { whole = same ∙ ap text_of_lines (sym back); plain = ap (list_all (list_all is_line_byte)) back ∙ all_plain })

-- whether or not the line could be kept
pub still_text : {A B : Type 0} (r : Result A B) (text line new : List ℕ) → IsText text → list_all is_line_byte line ≡ true → OnOk r (new ≡ text ++ line ++ 10 ∷ []) → OnErr r (new ≡ text) → IsText new
still_text (Ok a) text line new t e ok err = subst IsText (sym ok) (one_more text line t e).1
still_text (Err b) text line new t e ok err = subst IsText (sym err) t
