-- Clip codes.
use Rattle.std.proofs.Common.{◌≡◌, ℕ, List, [], ◌∷◌, map, Some, false, refl, ap, sym, ◌∙◌, arith}
use Rattle.rsp_decode.specs.declared.inst.Inst.TheVariants.{MoveControl}
use Rattle.rsp_decode.specs.declared.vector.Control.TheVariants.{Vcc}
use Rattle.rsp_decode.specs.declared.scalar.MoveOp.TheVariants.{From}
use Rattle.rsp_decode.specs.Table.Words.{inst_of, row_of}
use Rattle.rsp_lanes.specs.declared.flags.Flags.{Flags}
use Rattle.rsp_lanes.proofs.Kit.{lane_of}
use Rattle.rsp_multiply.specs.Laws.{SumsOfProducts}
use Rattle.rsp_scalar.specs.Registers.{register}
use Rattle.rsp_loadstore.specs.Controls.{control_word, control_value}
use Rattle.rsp_machine.specs.State.{State}
use Rattle.rsp_machine.specs.Step.{executed, instruction_effect}
use Rattle.rsp_machine.specs.Vector.{moves_control}
use Rattle.rsp_microcode.specs.Pieces.{Piece, clips, rows, code_of}
use Rattle.rsp_microcode.proofs.Registers.{one_scalar}
use Rattle.rsp_microcode.proofs.Pieces.{pieces_run}
use Rattle.rsp_routines.specs.Clip.{ClipsAll}

abbrev words : List ℕ
words = 0x4a030965 ∷ 0x4a0411a4 ∷ 0x48410800 ∷ []

abbrev pieces : List Piece
pieces =
    clips (record { vd = 5; vs = 1; vt = 3; element = 0 }) (record { vd = 6; vs = 2; vt = 4; element = 0 })
    ∷ rows (MoveControl From 1 Vcc ∷ [])
    ∷ []

decoded : map inst_of words ≡ map Some (code_of pieces)
unfolding inst_of row_of
decoded = refl

pub does : SumsOfProducts → ClipsAll words
unfolding executed instruction_effect moves_control control_value
does law s is at =
    let end = pieces_run law words pieces decoded refl s is at tt in
    let flags = ap (λ (t : State). t.flags) end.ran in
    record {
      below = λ i h. lane_of false _ _ (ap (λ (f : Flags). f.compare) flags) i h;
      above = λ i h. lane_of false _ _ (ap (λ (f : Flags). f.clip) flags) i h;
      code = ap (λ (t : State). register t.registers 1) end.ran ∙ one_scalar s.registers 1 1 _ is.registers.count (omega arith) refl ∙ ap (control_word Vcc) (sym flags);
      others = end.others (1 ∷ []) (5 ∷ 6 ∷ []) refl;
    }
