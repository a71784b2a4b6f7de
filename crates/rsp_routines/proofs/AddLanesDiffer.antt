-- One VSUB in place of the VADD.
use Rattle.std.proofs.Common.{◌≡◌, ℕ, List, [], ◌∷◌, map, Some, get_or, false, refl, ap, sym, ◌∙◌, arith}
use Rattle.rsp_decode.specs.declared.inst.Inst.{Inst}
use Rattle.rsp_decode.specs.declared.inst.Inst.TheVariants.{VectorAdd}
use Rattle.rsp_decode.specs.declared.vector.VectorAddOp.TheVariants.{Vsub}
use Rattle.rsp_decode.specs.Table.Words.{inst_of, row_of}
use Rattle.rsp_memory.specs.Memory.{word_at, byte_at}
use Rattle.rsp_lanes.specs.Lanes.{each_lane}
use Rattle.rsp_lanes.specs.Outcome.{results_of}
use Rattle.rsp_numbers.specs.Numbers.{clamp16}
use Rattle.rsp_loadstore.specs.File.{vector, with_vector, empty_file}
use Rattle.rsp_machine.specs.State.{State, start_of}
use Rattle.rsp_machine.specs.Step.{executed, instruction_effect}
use Rattle.rsp_machine.specs.Vector.{ruled}
use Rattle.rsp_machine.specs.Laws.{steps_of}
use Rattle.rsp_microcode.specs.Runs.{IsAt}
use Rattle.rsp_routines.specs.AddLanes.{SubtractingDiffers}
use Rattle.rsp_microcode.proofs.Runs.{straight}

abbrev words : List ℕ
words = 0x4a0208d1 ∷ []

abbrev subtract : Inst
subtract = VectorAdd Vsub (record { vd = 3; vs = 1; vt = 2; element = 0 })

decoded : map inst_of words ≡ map Some (subtract ∷ [])
unfolding inst_of row_of
decoded = refl

-- the start with the word at 0, and 1 in each lane of $v2: the sums are 1, and the differences -1
abbrev begin : State
begin = record (start_of []) { imem = 0x4a ∷ 0x02 ∷ 0x08 ∷ 0xd1 ∷ []; vectors = with_vector empty_file 2 (each_lane (λ _. 1)) }

is_at : IsAt words begin
unfolding start_of word_at byte_at
is_at = record { goes = refl; runs = refl; next = refl; stand = (refl, tt) }

clear : begin.flags.carry ≡ each_lane (λ _. false)
unfolding start_of
clear = refl

-- lane 0 of register 3 after the word, and as it should be
is_65535 : get_or (vector (executed subtract begin).vectors 3) 0 0 ≡ 65535
unfolding executed instruction_effect ruled results_of start_of vector with_vector empty_file each_lane clamp16
is_65535 = refl

pub differs : SubtractingDiffers
unfolding start_of vector with_vector empty_file each_lane clamp16
differs claim =
    let meant : get_or (vector (steps_of 1 begin).vectors 3) 0 0 ≡ 1 = ap (λ (t : State). get_or (vector t.vectors 3) 0 0) (claim begin is_at clear) in
    let made : get_or (vector (steps_of 1 begin).vectors 3) 0 0 ≡ 65535 = ap (λ (t : State). get_or (vector t.vectors 3) 0 0) (straight words (subtract ∷ []) begin decoded refl is_at) ∙ is_65535 in
    omega (arith, sym made ∙ meant)
