-- Bytes copied in DMEM.
use Rattle.std.specs.Prelude.{ℕ, ◌≡◌, ◌+◌, ◌*◌, ◌<◌, ◌++◌, List, [], ◌∷◌, codes}
use Rattle.rsp_memory.specs.Memory.{byte_at}
use Rattle.rsp_scalar.specs.Registers.{register}
use Rattle.rsp_machine.specs.State.{State, IsState}
use Rattle.rsp_machine.specs.Laws.{steps_of}
use Rattle.rsp_microcode.specs.Runs.{IsAt, address_after_words}
use Rattle.rsp_microcode.specs.Lanes.{IsOutside}
use Rattle.rsp_microcode.specs.Kept.{registers_but, vectors_but}
use Rattle.rsp_microcode.specs.Text.{line}
use Rattle.rsp_routines.specs.Areas.{IsArea, SparesArea, vectors_for}

-- $1 has the address of the bytes, $3 that of the copy, $4 their number
abbrev pub text : List ℕ
text =
    line (codes "addu $5, $3, $4")
    ++ line (codes "lqv $v30[0], 0($5)")
    ++ line (codes "copy: lqv $v1[0], 0($1)")
    ++ line (codes "addiu $4, $4, -16")
    ++ line (codes "addiu $1, $1, 16")
    ++ line (codes "sqv $v1[0], 0($3)")
    ++ line (codes "bgtz $4, copy")
    ++ line (codes "addiu $3, $3, 16")
    ++ line (codes "sqv $v30[0], 0($5)")

-- the precondition of the words
pub record IsCopy (from to n : ℕ) : Type 0 where
  pub source : IsArea from n
  pub target : IsArea to n
  pub spares : SparesArea to from n

-- what all steps from s to t do
pub record Copies (words : List ℕ) (s t : State) (from to n : ℕ) : Type 0 where
  -- each byte of the copy, and no other byte of DMEM changed
  pub bytes : (i : ℕ) → i < n → byte_at t.dmem (to + i) ≡ byte_at s.dmem (from + i)
  pub outside : (x : ℕ) → IsOutside to n x → byte_at t.dmem x ≡ byte_at s.dmem x
  -- pc is after the words, and nothing else changed but scalar registers 1, 3, 4 and 5 and vector registers 1 and 30
  pub others : t ≡ record s {
    pc = address_after_words words s.pc;
    npc = address_after_words words s.npc;
    registers = registers_but (1 ∷ 3 ∷ 4 ∷ 5 ∷ []) s.registers t.registers;
    vectors = vectors_but (1 ∷ 30 ∷ []) s.vectors t.vectors;
    dmem = t.dmem;
  }

-- from each state that is about to execute the words, with the addresses in registers 1 and 3 and the number in register 4
abbrev pub CopiesBytes : List ℕ → Type 0
CopiesBytes words = (s : State) → IsState s → IsAt words s
    → IsCopy (register s.registers 1) (register s.registers 3) (register s.registers 4)
    → Copies words s (steps_of (3 + 6 * vectors_for (register s.registers 4)) s) (register s.registers 1) (register s.registers 3) (register s.registers 4)
