-- The first of some bytes that is 0: a loop with two exits.
use Rattle.std.specs.Prelude.{ℕ, ◌≡◌, ◌≢◌, ◌+◌, ◌*◌, ◌<◌, ◌≤◌, ◌++◌, nat_lt, if◌then◌else◌, List, [], ◌∷◌, codes}
use Rattle.rsp_memory.specs.Memory.{byte_at}
use Rattle.rsp_scalar.specs.Registers.{register}
use Rattle.rsp_machine.specs.State.{State, IsState}
use Rattle.rsp_machine.specs.Laws.{steps_of}
use Rattle.rsp_microcode.specs.Runs.{IsAt, address_after_words}
use Rattle.rsp_microcode.specs.Kept.{registers_but}
use Rattle.rsp_microcode.specs.Text.{line}

-- $1 has the address of the first byte, $3 the address after the last one
abbrev pub text : List ℕ
text =
    line (codes "find: lbu $2, 0($1)")
    ++ line (codes "beq $2, $0, out")
    ++ line (codes "nop")
    ++ line (codes "addiu $1, $1, 1")
    ++ line (codes "bne $1, $3, find")
    ++ line (codes "nop")
    ++ line (codes "out:")

-- m bytes: the first n aren't 0, and if there is one more, it is 0
pub record AreBytes (s : State) (n m : ℕ) : Type 0 where
  pub some : 0 < m
  pub end : register s.registers 3 ≡ register s.registers 1 + m
  pub among : n ≤ m
  pub before : (k : ℕ) → k < n → byte_at s.dmem (register s.registers 1 + k) ≢ 0
  pub there : n < m → byte_at s.dmem (register s.registers 1 + n) ≡ 0

-- what all steps from s to t do
pub record FindsZero (words : List ℕ) (s t : State) (n : ℕ) : Type 0 where
  -- register 1 has the address of the byte that is 0, or the one after all bytes
  pub found : register t.registers 1 ≡ register s.registers 1 + n
  -- nothing else changed but scalar register 2, pc and npc
  pub others : t ≡ record s {
    pc = address_after_words words s.pc;
    npc = address_after_words words s.npc;
    registers = registers_but (1 ∷ 2 ∷ []) s.registers t.registers;
  }

-- from each state that is about to execute the words: the first exit is after three steps of a round, the second after its six
abbrev pub FindsZeros : List ℕ → Type 0
FindsZeros words = (s : State) → IsState s → IsAt words s → (n m : ℕ) → AreBytes s n m
    → FindsZero words s (steps_of (if nat_lt n m then n * 6 + 3 else n * 6) s) n
