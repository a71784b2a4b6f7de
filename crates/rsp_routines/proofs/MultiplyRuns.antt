-- The product.
use Rattle.std.proofs.Common.{◌≡◌, ℕ, List, [], ◌∷◌, map, Some, arith, refl, ap, ◌∙◌}
use Rattle.rsp_decode.specs.declared.vector.VectorMultiplyOp.TheVariants.{Vmudl, Vmadm, Vmadn, Vmadh}
use Rattle.rsp_decode.specs.Table.Words.{inst_of, row_of}
use Rattle.rsp_multiply.specs.Laws.{SumsOfProducts}
use Rattle.rsp_loadstore.specs.File.{vector}
use Rattle.rsp_machine.specs.State.{State}
use Rattle.rsp_microcode.specs.Multiplies.{Term, term, sum_writes}
use Rattle.rsp_microcode.specs.Pieces.{sums, code_of}
use Rattle.rsp_routines.specs.Multiply.{words, MultipliesFixed}
use Rattle.rsp_microcode.proofs.Registers.{vector_reads}
use Rattle.rsp_microcode.proofs.Pieces.{pieces_run}
use Rattle.rsp_microcode.proofs.FixedProducts.{fixed_product}

abbrev terms : List Term
terms = term Vmudl 10 2 4 0 ∷ term Vmadm 10 1 4 0 ∷ term Vmadn 10 2 3 0 ∷ term Vmadh 9 1 3 0 ∷ term Vmadn 10 0 0 0 ∷ []

decoded : map inst_of words ≡ map Some (code_of (sums terms ∷ []))
unfolding inst_of row_of
decoded = refl

pub multiplies_fixed : SumsOfProducts → MultipliesFixed words
multiplies_fixed law s is at zero =
    let end = pieces_run law words (sums terms ∷ []) decoded refl s is at tt in
    let read = λ (n : ℕ). ap (λ (t : State). vector t.vectors n) end.ran ∙ vector_reads (sum_writes terms s.vectors) s.vectors n is.vectors.count refl in
    let v = is.vectors.registers in
    record {
      product = fixed_product _ _ _ _ _ _ _ (v 1 (omega arith)) (v 2 (omega arith)) (v 3 (omega arith)) (v 4 (omega arith)) zero (read 9) (read 10);
      others = end.others [] (9 ∷ 10 ∷ []) refl;
    }
