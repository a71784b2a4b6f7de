-- The texts of operands.
use Rattle.std.proofs.Common.{◌≡◌, ap, ◌∙◌, ℕ, List, [], ◌∷◌, length, ◌+◌, ◌<◌, ◌≤◌, false, arith}
use Rattle.std.specs.Prelude.{map, ◌==◌, None, Some}
use Rattle.std.specs.List.{slice_split}
use Rattle.std.proofs.lemmas.Bool.{cond-false}
use Rattle.std.proofs.lemmas.List.Splits.{length-slice_split}
use Rattle.std.proofs.lemmas.List.Sums.{count_by-le-length}
use Rattle.std.proofs.lemmas.List.{length-map}
use Rattle.rsp_syntax.specs.declared.line_bytes.Boundary.TheVariants.{Comma}
use Rattle.rsp_syntax.specs.Chars.{trim}
use Rattle.rsp_syntax.specs.Cuts.{is_boundary, cut}
use Rattle.rsp_syntax.specs.Statement.{operand_texts}
use Rattle.rsp_syntax.proofs.Cuts.{IsCut, cut_some, cut_nothing}
use Rattle.rsp_syntax.proofs.Splits.{split_cons, split_one}

-- the texts of a text that is cut at its first comma, and of one without a comma
pub first_of_more : (text front rest : List ℕ) → Some (front, rest) ≡ cut Comma text → map trim (slice_split (is_boundary Comma) text) ≡ trim front ∷ map trim (slice_split (is_boundary Comma) rest)
first_of_more text front rest e =
    let k : IsCut (is_boundary Comma) text front rest = cut_some Comma text front rest e in
    ap (λ t. map trim (slice_split (is_boundary Comma) t)) k.whole
    ∙ ap (map trim) (split_cons (is_boundary Comma) front rest k.stop k.plain k.stops_there)

pub only_one : (text : List ℕ) → None ≡ cut Comma text → map trim (slice_split (is_boundary Comma) text) ≡ trim text ∷ []
only_one text e = ap (map trim) (split_one (is_boundary Comma) text (cut_nothing Comma text e))

pub texts_of : (bs : List ℕ) → (length bs == 0) ≡ false → operand_texts bs ≡ map trim (slice_split (is_boundary Comma) bs)
texts_of bs e = cond-false (length bs == 0) [] _ e

pub some_texts : (bs : List ℕ) → (length bs == 0) ≡ false → 0 < length (operand_texts bs)
some_texts bs e =
    let same = ap length (texts_of bs e) in
    omega (arith, same, length-map (slice_split (is_boundary Comma) bs) trim, length-slice_split (is_boundary Comma) bs)

-- a text has at most one operand for each of its bytes, and one more
pub few_texts : (bs : List ℕ) → length (map trim (slice_split (is_boundary Comma) bs)) ≤ length bs + 1
few_texts bs = omega (arith, length-map (slice_split (is_boundary Comma) bs) trim, length-slice_split (is_boundary Comma) bs, count_by-le-length (is_boundary Comma) bs)
