-- A sound mixed into another, at a volume.
use Rattle.std.specs.Prelude.{ℕ, ℤ, pos, ◌≡◌, ◌+◌, ◌*◌, ◌<◌, ◌+ℤ◌, ◌*ℤ◌, ◌++◌, List, [], ◌∷◌, codes, slice_index}
use Rattle.rsp_numbers.specs.Numbers.{s16, sixteen_bits, clamp16, floor_div}
use Rattle.rsp_memory.specs.Memory.{byte_at, half_at}
use Rattle.rsp_scalar.specs.Registers.{register}
use Rattle.rsp_loadstore.specs.File.{vector}
use Rattle.rsp_machine.specs.State.{State, IsState}
use Rattle.rsp_machine.specs.Laws.{steps_of}
use Rattle.rsp_microcode.specs.Runs.{IsAt, address_after_words}
use Rattle.rsp_microcode.specs.Lanes.{IsOutside}
use Rattle.rsp_microcode.specs.Kept.{registers_but, vectors_but}
use Rattle.rsp_microcode.specs.Text.{line}
use Rattle.rsp_routines.specs.Areas.{IsArea, SparesArea, vectors_for}

-- $1 and $2 have the addresses of the sounds, $3 that of the mix, $4 the number of bytes; lane 0 of $v3 has the volume of the
-- first sound, lane 1 that of the second
abbrev pub text : List ℕ
text =
    line (codes "addu $5, $3, $4")
    ++ line (codes "lqv $v30[0], 0($5)")
    ++ line (codes "mix: lqv $v1[0], 0($1)")
    ++ line (codes "lqv $v2[0], 0($2)")
    ++ line (codes "addiu $4, $4, -16")
    ++ line (codes "addiu $1, $1, 16")
    ++ line (codes "vmulf $v4, $v1, $v3[0]")
    ++ line (codes "vmadh $v4, $v2, $v3[1]")
    ++ line (codes "addiu $2, $2, 16")
    ++ line (codes "sqv $v4[0], 0($3)")
    ++ line (codes "bgtz $4, mix")
    ++ line (codes "addiu $3, $3, 16")
    ++ line (codes "sqv $v30[0], 0($5)")

-- a times the fraction v of 32768, and b times the whole number w: the sum, rounded to the nearest, clamped to 16 bits
abbrev pub mixed_in : ℤ → ℤ → ℤ → ℤ → ℤ
mixed_in a v b w = clamp16 (floor_div ((pos 2 *ℤ (a *ℤ v) +ℤ pos 32768) +ℤ pos 65536 *ℤ (b *ℤ w)) 65536)

-- of two samples, by the volumes in the first two lanes of a register
abbrev pub sample : ℕ → ℕ → List ℕ → ℕ
sample a b volumes = sixteen_bits (mixed_in (s16 a) (s16 (slice_index volumes 0)) (s16 b) (s16 (slice_index volumes 1)))

-- the precondition of the words
pub record IsMix (first second to n : ℕ) : Type 0 where
  pub first_area : IsArea first n
  pub second_area : IsArea second n
  pub target : IsArea to n
  pub spares_first : SparesArea to first n
  pub spares_second : SparesArea to second n

-- what all steps from s to t do
pub record MixesIn (words : List ℕ) (s t : State) (first second to n : ℕ) : Type 0 where
  -- each whole sample of the n bytes, and no byte outside of them changed
  pub samples : (i : ℕ) → 2 * i + 1 < n → half_at t.dmem (to + 2 * i) ≡ sample (half_at s.dmem (first + 2 * i)) (half_at s.dmem (second + 2 * i)) (vector s.vectors 3)
  pub outside : (x : ℕ) → IsOutside to n x → byte_at t.dmem x ≡ byte_at s.dmem x
  -- pc is after the words, and nothing else changed but scalar registers 1 to 5, vector registers 1, 2, 4 and 30, and accumulators
  pub others : t ≡ record s {
    pc = address_after_words words s.pc;
    npc = address_after_words words s.npc;
    registers = registers_but (1 ∷ 2 ∷ 3 ∷ 4 ∷ 5 ∷ []) s.registers t.registers;
    vectors = vectors_but (1 ∷ 2 ∷ 4 ∷ 30 ∷ []) s.vectors t.vectors;
    accumulators = t.accumulators;
    dmem = t.dmem;
  }

-- from each state that is about to execute the words, with the addresses in registers 1 to 3 and the number of bytes in register 4
abbrev pub MixesSound : List ℕ → Type 0
MixesSound words = (s : State) → IsState s → IsAt words s
    → IsMix (register s.registers 1) (register s.registers 2) (register s.registers 3) (register s.registers 4)
    → MixesIn words s (steps_of (3 + 10 * vectors_for (register s.registers 4)) s) (register s.registers 1) (register s.registers 2) (register s.registers 3) (register s.registers 4)
