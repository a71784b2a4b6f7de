-- Clip codes: on which side of -w to w a number is.
use Rattle.std.specs.Prelude.{ℕ, ◌≡◌, ◌<◌, ◌++◌, false, List, [], ◌∷◌, codes, slice_index_or}
use Rattle.rsp_decode.specs.declared.vector.Control.TheVariants.{Vcc}
use Rattle.rsp_scalar.specs.Registers.{register}
use Rattle.rsp_loadstore.specs.File.{vector}
use Rattle.rsp_loadstore.specs.Controls.{control_word}
use Rattle.rsp_machine.specs.State.{State, IsState}
use Rattle.rsp_machine.specs.Laws.{steps_of}
use Rattle.rsp_microcode.specs.Runs.{IsAt, address_after_words}
use Rattle.rsp_microcode.specs.Kept.{registers_but, vectors_but}
use Rattle.rsp_microcode.specs.Fixed.{fixed}
use Rattle.rsp_microcode.specs.Clips.{is_below, is_above}
use Rattle.rsp_microcode.specs.Text.{line}

-- $v1 has the high halves of the numbers, $v2 the low ones; $v3 and $v4 those of w; the codes are in $1
abbrev pub text : List ℕ
text =
    line (codes "vch $v5, $v1, $v3")
    ++ line (codes "vcl $v6, $v2, $v4")
    ++ line (codes "cfc2 $1, $vcc")

-- what the three steps from s to t do
pub record ClipsNumbers (words : List ℕ) (s t : State) : Type 0 where
  -- the compare flag of lane i is `is_below` of its number, and the clip flag `is_above`
  pub below : (i : ℕ) → i < 8 → slice_index_or t.flags.compare i false ≡ is_below (fixed (vector s.vectors 1) (vector s.vectors 2) i) (fixed (vector s.vectors 3) (vector s.vectors 4) i)
  pub above : (i : ℕ) → i < 8 → slice_index_or t.flags.clip i false ≡ is_above (fixed (vector s.vectors 1) (vector s.vectors 2) i) (fixed (vector s.vectors 3) (vector s.vectors 4) i)
  -- register 1 has them as a number: bit i is the compare flag of lane i, bit 8 + i its clip flag, and bit 15 is repeated above
  pub code : register t.registers 1 ≡ control_word Vcc t.flags
  -- nothing else changed but scalar register 1, vector registers 5 and 6, the flags and the accumulators
  pub others : t ≡ record s {
    pc = address_after_words words s.pc;
    npc = address_after_words words s.npc;
    registers = registers_but (1 ∷ []) s.registers t.registers;
    vectors = vectors_but (5 ∷ 6 ∷ []) s.vectors t.vectors;
    accumulators = t.accumulators;
    flags = t.flags;
  }

-- from each state that is about to execute the words
abbrev pub ClipsAll : List ℕ → Type 0
ClipsAll words = (s : State) → IsState s → IsAt words s → ClipsNumbers words s (steps_of 3 s)
