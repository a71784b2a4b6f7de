-- A sound mixed into another, at volumes that grow.
use Rattle.std.specs.Prelude.{ℕ, ℤ, zero, suc, ◌≡◌, ◌+◌, ◌*◌, ◌/◌, ◌%◌, ◌<◌, ◌++◌, List, [], ◌∷◌, codes, slice_index}
use Rattle.rsp_numbers.specs.Numbers.{s16, sixteen_bits, floor_div}
use Rattle.rsp_memory.specs.Memory.{byte_at, half_at}
use Rattle.rsp_scalar.specs.Registers.{register}
use Rattle.rsp_loadstore.specs.File.{vector}
use Rattle.rsp_machine.specs.State.{State, IsState}
use Rattle.rsp_machine.specs.Laws.{steps_of}
use Rattle.rsp_microcode.specs.Runs.{IsAt, address_after_words}
use Rattle.rsp_microcode.specs.Lanes.{IsOutside}
use Rattle.rsp_microcode.specs.Fixed.{fixed, fixed_added}
use Rattle.rsp_microcode.specs.Kept.{registers_but, vectors_but}
use Rattle.rsp_microcode.specs.Text.{line}
use Rattle.rsp_routines.specs.Areas.{vectors_for}
use Rattle.rsp_routines.specs.Mix.{mixed_in, IsMix}

-- $1 and $2 have the addresses of the sounds, $3 that of the mix, $4 the number of bytes; $v3 and $v4 have the first volumes of the first
-- sound, $v5 and $v6 how much they grow, lane 0 of $v8 the volume of the second sound
abbrev pub text : List ℕ
text =
    line (codes "addu $5, $3, $4")
    ++ line (codes "lqv $v30[0], 0($5)")
    ++ line (codes "ramp: lqv $v1[0], 0($1)")
    ++ line (codes "lqv $v2[0], 0($2)")
    ++ line (codes "addiu $4, $4, -16")
    ++ line (codes "addiu $1, $1, 16")
    ++ line (codes "vmulf $v7, $v1, $v3")
    ++ line (codes "vmadh $v7, $v2, $v8[0]")
    ++ line (codes "vaddc $v4, $v4, $v6")
    ++ line (codes "vadd $v3, $v3, $v5")
    ++ line (codes "addiu $2, $2, 16")
    ++ line (codes "sqv $v7[0], 0($3)")
    ++ line (codes "bgtz $4, ramp")
    ++ line (codes "addiu $3, $3, 16")
    ++ line (codes "sqv $v30[0], 0($5)")

-- the volume of lane i after k rounds: each round adds the number in $v5 and $v6
abbrev pub volume : State → ℕ → ℕ → ℤ
volume s zero i = fixed (vector s.vectors 3) (vector s.vectors 4) i
volume s (suc k) i = fixed_added (volume s k i) (fixed (vector s.vectors 5) (vector s.vectors 6) i)

-- of two samples in lane i, after k rounds: the first by the high half of its volume, as a fraction of 32768
abbrev pub ramped : State → ℕ → ℕ → ℕ → ℕ → ℕ
ramped s k i a b = sixteen_bits (mixed_in (s16 a) (floor_div (volume s k i) 65536) (s16 b) (s16 (slice_index (vector s.vectors 8) 0)))

-- what all steps from s to t do
pub record MixesRamp (words : List ℕ) (s t : State) (first second to n : ℕ) : Type 0 where
  -- each whole sample of the n bytes, by the volume of its lane, and no byte outside of them changed
  pub samples : (i : ℕ) → 2 * i + 1 < n → half_at t.dmem (to + 2 * i) ≡ ramped s (i / 8) (i % 8) (half_at s.dmem (first + 2 * i)) (half_at s.dmem (second + 2 * i))
  pub outside : (x : ℕ) → IsOutside to n x → byte_at t.dmem x ≡ byte_at s.dmem x
  -- the volumes with which the next samples go on
  pub volumes : (i : ℕ) → i < 8 → fixed (vector t.vectors 3) (vector t.vectors 4) i ≡ volume s (vectors_for n) i
  -- pc is after the words, and nothing else changed but scalar registers 1 to 5, vector registers 1 to 4, 7 and 30, the flags and the
  -- accumulators
  pub others : t ≡ record s {
    pc = address_after_words words s.pc;
    npc = address_after_words words s.npc;
    registers = registers_but (1 ∷ 2 ∷ 3 ∷ 4 ∷ 5 ∷ []) s.registers t.registers;
    vectors = vectors_but (1 ∷ 2 ∷ 3 ∷ 4 ∷ 7 ∷ 30 ∷ []) s.vectors t.vectors;
    accumulators = t.accumulators;
    flags = t.flags;
    dmem = t.dmem;
  }

-- from each state that is about to execute the words, with the addresses in registers 1 to 3 and the number of bytes in register 4
abbrev pub MixesRamps : List ℕ → Type 0
MixesRamps words = (s : State) → IsState s → IsAt words s
    → IsMix (register s.registers 1) (register s.registers 2) (register s.registers 3) (register s.registers 4)
    → MixesRamp words s (steps_of (3 + 12 * vectors_for (register s.registers 4)) s) (register s.registers 1) (register s.registers 2) (register s.registers 3) (register s.registers 4)
