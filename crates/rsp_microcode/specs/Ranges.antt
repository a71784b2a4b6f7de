-- The ranges of a state, which instructions keep.
use Rattle.std.specs.Prelude.{◌≡◌, nat_lt, Bool, true, List}
use Rattle.std.specs.List.{list_all}
use Rattle.rsp_decode.specs.declared.inst.Inst.{Inst}
use Rattle.rsp_decode.specs.declared.inst.Inst.TheVariants.{Immediate, LoadUpper}
use Rattle.rsp_machine.specs.State.{State, IsState}
use Rattle.rsp_microcode.specs.Runs.{ran_through}
use Rattle.rsp_microcode.specs.Frames.{all_stay}

-- the immediate of an instruction has sixteen bits, as in every word
abbrev pub fits_word : Inst → Bool
fits_word (Immediate row rt rs imm) = nat_lt imm 65536
fits_word (LoadUpper rt imm) = nat_lt imm 65536
fits_word _ = true

abbrev pub all_fit : List Inst → Bool
all_fit is = list_all fits_word is

-- from a state in its ranges, instructions come to a state in its ranges
abbrev pub RangesKept : Type 0
RangesKept = (code : List Inst) (s : State) → all_stay code ≡ true → all_fit code ≡ true → IsState s → IsState (ran_through code s)
