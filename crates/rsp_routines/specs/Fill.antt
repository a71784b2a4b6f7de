-- Bytes of DMEM filled with the sixteen bytes of a vector register, over and over.
use Rattle.std.specs.Prelude.{ℕ, ◌≡◌, ◌+◌, ◌*◌, ◌%◌, ◌<◌, ◌++◌, List, [], ◌∷◌, codes}
use Rattle.rsp_memory.specs.Memory.{byte_at}
use Rattle.rsp_lanes.specs.Lanes.{register_byte}
use Rattle.rsp_scalar.specs.Registers.{register}
use Rattle.rsp_loadstore.specs.File.{vector}
use Rattle.rsp_machine.specs.State.{State, IsState}
use Rattle.rsp_machine.specs.Laws.{steps_of}
use Rattle.rsp_microcode.specs.Runs.{IsAt, address_after_words}
use Rattle.rsp_microcode.specs.Lanes.{IsOutside}
use Rattle.rsp_microcode.specs.Kept.{registers_but, vectors_but}
use Rattle.rsp_microcode.specs.Text.{line}
use Rattle.rsp_routines.specs.Areas.{IsArea, vectors_for}

-- $3 has the address, $4 the number of bytes, $v1 the bytes
abbrev pub text : List ℕ
text =
    line (codes "addu $5, $3, $4")
    ++ line (codes "lqv $v30[0], 0($5)")
    ++ line (codes "fill: sqv $v1[0], 0($3)")
    ++ line (codes "addiu $4, $4, -16")
    ++ line (codes "bgtz $4, fill")
    ++ line (codes "addiu $3, $3, 16")
    ++ line (codes "sqv $v30[0], 0($5)")

-- what all steps from s to t do
pub record Fills (words : List ℕ) (s t : State) (to n : ℕ) : Type 0 where
  -- each byte is one of $v1, and no other byte of DMEM changed
  pub bytes : (i : ℕ) → i < n → byte_at t.dmem (to + i) ≡ register_byte (vector s.vectors 1) (i % 16)
  pub outside : (x : ℕ) → IsOutside to n x → byte_at t.dmem x ≡ byte_at s.dmem x
  -- pc is after the words, and nothing else changed but scalar registers 3 to 5 and vector register 30
  pub others : t ≡ record s {
    pc = address_after_words words s.pc;
    npc = address_after_words words s.npc;
    registers = registers_but (3 ∷ 4 ∷ 5 ∷ []) s.registers t.registers;
    vectors = vectors_but (30 ∷ []) s.vectors t.vectors;
    dmem = t.dmem;
  }

-- from each state that is about to execute the words, with the address in register 3 and the number in register 4
abbrev pub FillsBytes : List ℕ → Type 0
FillsBytes words = (s : State) → IsState s → IsAt words s → IsArea (register s.registers 3) (register s.registers 4)
    → Fills words s (steps_of (3 + 4 * vectors_for (register s.registers 4)) s) (register s.registers 3) (register s.registers 4)
