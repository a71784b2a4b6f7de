-- The transform of fixed-point vectors.
use Rattle.std.proofs.Common.{◌≡◌, ℕ, ◌+◌, ◌<◌, ℤ, pos, ◌+ℤ◌, List, [], ◌∷◌, map, Some, refl, ap, ◌∙◌, arith}
use Rattle.std.proofs.Math.IntN.{+ℤ_idl}
use Rattle.rsp_numbers.specs.Numbers.{s48}
use Rattle.rsp_decode.specs.declared.vector.VectorMultiplyOp.TheVariants.{Vmudl, Vmadl, Vmadm, Vmadn, Vmadh}
use Rattle.rsp_decode.specs.Table.Words.{inst_of, row_of}
use Rattle.rsp_multiply.specs.Laws.{SumsOfProducts}
use Rattle.rsp_loadstore.specs.File.{IsFile, vector}
use Rattle.rsp_machine.specs.State.{State}
use Rattle.rsp_microcode.specs.Multiplies.{Term, term, sum_writes}
use Rattle.rsp_microcode.specs.Pieces.{Piece, sums, code_of}
use Rattle.rsp_microcode.specs.Fixed.{limited, plus_product}
use Rattle.rsp_routines.specs.TransformFixed.{part, TransformsFixed}
use Rattle.rsp_microcode.proofs.Registers.{vector_reads}
use Rattle.rsp_microcode.proofs.Pieces.{pieces_run}
use Rattle.rsp_microcode.proofs.Fixed.{fixed_sum}
use Rattle.rsp_microcode.proofs.FixedProducts.{fixed_plus_product}

abbrev terms : List Term
terms =
    term Vmudl 2 20 10 4 ∷ term Vmadm 2 16 10 4 ∷ term Vmadn 2 20 9 4 ∷ term Vmadh 1 16 9 4
    ∷ term Vmadl 2 21 10 5 ∷ term Vmadm 2 17 10 5 ∷ term Vmadn 2 21 9 5 ∷ term Vmadh 1 17 9 5
    ∷ term Vmadl 2 22 10 6 ∷ term Vmadm 2 18 10 6 ∷ term Vmadn 2 22 9 6 ∷ term Vmadh 1 18 9 6
    ∷ term Vmadl 2 23 10 7 ∷ term Vmadm 2 19 10 7 ∷ term Vmadn 2 23 9 7 ∷ term Vmadh 1 19 9 7 ∷ term Vmadn 2 0 0 0 ∷ []

abbrev words : List ℕ
words =
    0x4a8aa084 ∷ 0x4a8a808d ∷ 0x4a89a08e ∷ 0x4a89804f ∷ 0x4aaaa88c ∷ 0x4aaa888d ∷ 0x4aa9a88e ∷ 0x4aa9884f ∷
    0x4acab08c ∷ 0x4aca908d ∷ 0x4ac9b08e ∷ 0x4ac9904f ∷ 0x4aeab88c ∷ 0x4aea988d ∷ 0x4ae9b88e ∷ 0x4ae9984f ∷ 0x4a00008e ∷ []

abbrev pieces : List Piece
pieces = sums terms ∷ []

decoded : map inst_of words ≡ map Some (code_of pieces)
unfolding inst_of row_of
decoded = refl

-- the sum as the multiplies make it, column by column
abbrev so_far : List (List ℕ) → ℕ → ℤ
so_far f i =
    let one = plus_product (pos 0) (vector f 16) (vector f 20) (vector f 9) (vector f 10) 4 i in
    let two = plus_product one (vector f 17) (vector f 21) (vector f 9) (vector f 10) 5 i in
    let three = plus_product two (vector f 18) (vector f 22) (vector f 9) (vector f 10) 6 i in
    plus_product three (vector f 19) (vector f 23) (vector f 9) (vector f 10) 7 i

whole_sum : (s : State) (i : ℕ) → IsFile s.vectors → i < 8 → so_far s.vectors i ≡ ((part s i 0 +ℤ part s i 1) +ℤ part s i 2) +ℤ part s i 3
whole_sum s i is h =
    let v = is.registers in
    let column = λ (z : ℤ) (k e : ℕ) (p : 16 + k < 32) (q : 20 + k < 32). fixed_plus_product z _ _ _ _ e i (v (16 + k) p) (v (20 + k) q) (v 9 (omega arith)) (v 10 (omega arith)) h in
    column _ 3 7 (omega arith) (omega arith)
    ∙ ap (λ z. z +ℤ part s i 3) (column _ 2 6 (omega arith) (omega arith)
    ∙ ap (λ z. z +ℤ part s i 2) (column _ 1 5 (omega arith) (omega arith)
    ∙ ap (λ z. z +ℤ part s i 1) (column (pos 0) 0 4 (omega arith) (omega arith) ∙ +ℤ_idl _)))

pub transforms_fixed : SumsOfProducts → TransformsFixed words
transforms_fixed law s is at zero =
    let end = pieces_run law words pieces decoded refl s is at tt in
    let read = λ (n : ℕ). ap (λ (t : State). vector t.vectors n) end.ran ∙ vector_reads (sum_writes terms s.vectors) s.vectors n is.vectors.count refl in
    record {
      product = λ i h. fixed_sum (so_far s.vectors) _ _ _ zero (read 1) (read 2) i h ∙ ap (λ z. limited (s48 z)) (whole_sum s i is.vectors h);
      others = end.others [] (1 ∷ 2 ∷ []) refl;
    }
