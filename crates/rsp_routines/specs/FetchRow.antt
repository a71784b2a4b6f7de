-- A row of bytes from RDRAM, and a wait until it has come.
use Rattle.std.specs.Prelude.{ℕ, ◌≡◌, ◌+◌, ◌<◌, ◌++◌, List, [], ◌∷◌, codes}
use Rattle.rsp_memory.specs.Memory.{byte_at}
use Rattle.rsp_memory.specs.Image.{image_byte}
use Rattle.rsp_scalar.specs.Registers.{register}
use Rattle.rsp_machine.specs.State.{State, IsState}
use Rattle.rsp_machine.specs.Laws.{steps_of}
use Rattle.rsp_microcode.specs.Runs.{IsAt, address_after_words}
use Rattle.rsp_microcode.specs.Lanes.{IsOutside}
use Rattle.rsp_microcode.specs.Kept.{registers_but}
use Rattle.rsp_microcode.specs.Transfers.{IsRow, row_bytes, with_addresses}
use Rattle.rsp_microcode.specs.Text.{line}

-- $1 has the address in DMEM, $2 that in RDRAM, $3 the number of bytes less 1
abbrev pub text : List ℕ
text =
    line (codes "mtc0 $1, $c0")
    ++ line (codes "mtc0 $2, $c1")
    ++ line (codes "mtc0 $3, $c2")
    ++ line (codes "wait: mfc0 $4, $c6")
    ++ line (codes "bne $4, $0, wait")
    ++ line (codes "nop")

-- what the six steps from s to t do
pub record FetchesRow (words : List ℕ) (s t : State) (a image_address size : ℕ) : Type 0 where
  -- each byte of the row, and no other byte of DMEM changed
  pub bytes : (i : ℕ) → i < row_bytes size → byte_at t.dmem (a + i) ≡ image_byte s.rdram (image_address + i)
  pub outside : (x : ℕ) → IsOutside a (row_bytes size) x → byte_at t.dmem x ≡ byte_at s.dmem x
  -- nothing else changed but scalar register 4, the addresses and the skip of the SP registers, pc and npc
  pub others : t ≡ record s {
    pc = address_after_words words s.pc;
    npc = address_after_words words s.npc;
    registers = registers_but (4 ∷ []) s.registers t.registers;
    dmem = t.dmem;
    sp = with_addresses s.sp t.sp;
  }

-- from each state that is about to execute the words, with a row in registers 1 to 3
abbrev pub FetchesRows : List ℕ → Type 0
FetchesRows words = (s : State) → IsState s → IsAt words s → IsRow (register s.registers 1) (register s.registers 2) (register s.registers 3)
    → FetchesRow words s (steps_of 6 s) (register s.registers 1) (register s.registers 2) (register s.registers 3)
