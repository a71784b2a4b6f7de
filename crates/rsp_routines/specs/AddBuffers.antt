-- Two buffers of vectors added to a third, in a loop.
use Rattle.std.specs.Prelude.{ℕ, ◌≡◌, ◌+◌, ◌*◌, ◌<◌, ◌++◌, false, List, [], ◌∷◌, codes}
use Rattle.rsp_lanes.specs.Lanes.{each_lane}
use Rattle.rsp_scalar.specs.Registers.{register}
use Rattle.rsp_machine.specs.State.{State, IsState}
use Rattle.rsp_machine.specs.Laws.{steps_of}
use Rattle.rsp_microcode.specs.Runs.{IsAt, address_after_words}
use Rattle.rsp_microcode.specs.Lanes.{lanes_at}
use Rattle.rsp_microcode.specs.Kept.{registers_but, vectors_but}
use Rattle.rsp_microcode.specs.Buffers.{IsBuffer, SparesBuffer, IsFilled}
use Rattle.rsp_routines.specs.AddLanes.{limited_sums}
use Rattle.rsp_microcode.specs.Text.{line}

-- $1 and $2 have the addresses of the buffers, $3 that of the sums, $4 the count of vectors; the carry flags are clear
abbrev pub text : List ℕ
text =
    line (codes "loop: lqv $v1[0], 0($1)")
    ++ line (codes "lqv $v2[0], 0($2)")
    ++ line (codes "vadd $v3, $v1, $v2")
    ++ line (codes "sqv $v3[0], 0($3)")
    ++ line (codes "addiu $1, $1, 16")
    ++ line (codes "addiu $2, $2, 16")
    ++ line (codes "addiu $4, $4, -1")
    ++ line (codes "bne $4, $0, loop")
    ++ line (codes "addiu $3, $3, 16")

-- the precondition of the loop
pub record IsEntered (s : State) (first second sums n : ℕ) : Type 0 where
  pub count : 0 < n
  pub first_buffer : IsBuffer first n
  pub second_buffer : IsBuffer second n
  pub sums_buffer : IsBuffer sums n
  pub spares_first : SparesBuffer sums first n
  pub spares_second : SparesBuffer sums second n
  pub carry : s.flags.carry ≡ each_lane (λ _. false)

-- what all rounds from s to t do
pub record AddsBuffers (words : List ℕ) (s t : State) (first second sums n : ℕ) : Type 0 where
  -- each vector of the sums, and no other byte of DMEM changed
  pub filled : IsFilled (λ k. limited_sums (lanes_at s.dmem (first + 16 * k)) (lanes_at s.dmem (second + 16 * k))) s.dmem t.dmem sums n
  -- pc is after the words, and nothing else changed but scalar registers 1 to 4, vector registers 1 to 3, flags and accumulators
  pub others : t ≡ record s {
    pc = address_after_words words s.pc;
    npc = address_after_words words s.npc;
    registers = registers_but (1 ∷ 2 ∷ 3 ∷ 4 ∷ []) s.registers t.registers;
    vectors = vectors_but (1 ∷ 2 ∷ 3 ∷ []) s.vectors t.vectors;
    accumulators = t.accumulators;
    flags = t.flags;
    dmem = t.dmem;
  }

-- from each state that is about to execute the words, with the addresses and the count in registers 1 to 4: nine steps for each vector
abbrev pub AddsAllBuffers : List ℕ → Type 0
AddsAllBuffers words = (s : State) → IsState s → IsAt words s
    → IsEntered s (register s.registers 1) (register s.registers 2) (register s.registers 3) (register s.registers 4)
    → AddsBuffers words s (steps_of (register s.registers 4 * 9) s) (register s.registers 1) (register s.registers 2) (register s.registers 3) (register s.registers 4)
