-- Two buffers of samples mixed into a third, in a loop.
use Rattle.std.specs.Prelude.{ℕ, ◌≡◌, ◌+◌, ◌*◌, ◌<◌, ◌++◌, List, [], ◌∷◌, codes}
use Rattle.rsp_scalar.specs.Registers.{register}
use Rattle.rsp_loadstore.specs.File.{vector}
use Rattle.rsp_machine.specs.State.{State, IsState}
use Rattle.rsp_machine.specs.Laws.{steps_of}
use Rattle.rsp_microcode.specs.Runs.{IsAt, address_after_words}
use Rattle.rsp_microcode.specs.Lanes.{lanes_at}
use Rattle.rsp_microcode.specs.Kept.{registers_but, vectors_but}
use Rattle.rsp_microcode.specs.Buffers.{IsBuffer, SparesBuffer, IsFilled}
use Rattle.rsp_routines.specs.MixLanes.{mix}
use Rattle.rsp_microcode.specs.Text.{line}

-- $1 and $2 have the addresses of the buffers, $3 that of the mix, $4 the count of samples; lanes 0 and 1 of $v3 the volumes
abbrev pub text : List ℕ
text =
    line (codes "mix: lqv $v1[0], 0($1)")
    ++ line (codes "lqv $v2[0], 0($2)")
    ++ line (codes "vmulf $v4, $v1, $v3[0]")
    ++ line (codes "vmacf $v4, $v2, $v3[1]")
    ++ line (codes "sqv $v4[0], 0($3)")
    ++ line (codes "addiu $4, $4, -8")
    ++ line (codes "addiu $1, $1, 16")
    ++ line (codes "addiu $2, $2, 16")
    ++ line (codes "bgtz $4, mix")
    ++ line (codes "addiu $3, $3, 16")

-- the precondition of the loop: 8 n samples
pub record IsEntered (s : State) (first second out n : ℕ) : Type 0 where
  pub some : 0 < n
  pub count : register s.registers 4 ≡ 8 * n
  pub first_buffer : IsBuffer first n
  pub second_buffer : IsBuffer second n
  pub out_buffer : IsBuffer out n
  pub spares_first : SparesBuffer out first n
  pub spares_second : SparesBuffer out second n

-- what all rounds from s to t do
pub record MixesBuffers (words : List ℕ) (s t : State) (first second out n : ℕ) : Type 0 where
  -- each vector of the mix, and no other byte of DMEM changed
  pub filled : IsFilled (λ k. mix (lanes_at s.dmem (first + 16 * k)) (lanes_at s.dmem (second + 16 * k)) (vector s.vectors 3)) s.dmem t.dmem out n
  -- pc is after the words, and nothing else changed but scalar registers 1 to 4, vector registers 1, 2 and 4, and accumulators
  pub others : t ≡ record s {
    pc = address_after_words words s.pc;
    npc = address_after_words words s.npc;
    registers = registers_but (1 ∷ 2 ∷ 3 ∷ 4 ∷ []) s.registers t.registers;
    vectors = vectors_but (1 ∷ 2 ∷ 4 ∷ []) s.vectors t.vectors;
    accumulators = t.accumulators;
    dmem = t.dmem;
  }

-- from each state that is about to execute the words, with the addresses and the count in registers 1 to 4: ten steps for each vector
abbrev pub MixesAll : List ℕ → Type 0
MixesAll words = (s : State) → IsState s → IsAt words s
    → (n : ℕ) → IsEntered s (register s.registers 1) (register s.registers 2) (register s.registers 3) n
    → MixesBuffers words s (steps_of (n * 10) s) (register s.registers 1) (register s.registers 2) (register s.registers 3) n
