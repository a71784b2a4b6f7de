-- A filter of four coefficients.
use Rattle.std.specs.Prelude.{ℕ, ℤ, pos, ◌≡◌, ◌+◌, ◌*◌, ◌<◌, ◌+ℤ◌, ◌*ℤ◌, ◌++◌, List, [], ◌∷◌, codes, slice_index}
use Rattle.rsp_numbers.specs.Numbers.{s16, sixteen_bits, clamp16, floor_div}
use Rattle.rsp_memory.specs.Memory.{byte_at, half_at}
use Rattle.rsp_scalar.specs.Registers.{register}
use Rattle.rsp_loadstore.specs.File.{vector}
use Rattle.rsp_machine.specs.State.{State, IsState}
use Rattle.rsp_machine.specs.Laws.{steps_of}
use Rattle.rsp_microcode.specs.Runs.{IsAt, address_after_words}
use Rattle.rsp_microcode.specs.Lanes.{IsOutside}
use Rattle.rsp_microcode.specs.Kept.{registers_but, vectors_but}
use Rattle.rsp_microcode.specs.Text.{line}
use Rattle.rsp_routines.specs.Areas.{IsArea, SparesArea, vectors_for}

-- $1 has the address of the samples, $3 that of the filtered ones, $4 the number of bytes; lanes 0 to 3 of $v6 the coefficients
abbrev pub text : List ℕ
text =
    line (codes "addu $5, $3, $4")
    ++ line (codes "lqv $v30[0], 0($5)")
    ++ line (codes "filter: lqv $v1[0], 0($1)")
    ++ line (codes "addiu $6, $1, 2")
    ++ line (codes "addiu $7, $1, 4")
    ++ line (codes "addiu $8, $1, 6")
    ++ line (codes "lqv $v2[0], 0($6)")
    ++ line (codes "lrv $v2[0], 16($6)")
    ++ line (codes "lqv $v3[0], 0($7)")
    ++ line (codes "lrv $v3[0], 16($7)")
    ++ line (codes "lqv $v4[0], 0($8)")
    ++ line (codes "lrv $v4[0], 16($8)")
    ++ line (codes "addiu $4, $4, -16")
    ++ line (codes "addiu $1, $1, 16")
    ++ line (codes "vmulf $v5, $v1, $v6[0]")
    ++ line (codes "vmacf $v5, $v2, $v6[1]")
    ++ line (codes "vmacf $v5, $v3, $v6[2]")
    ++ line (codes "vmacf $v5, $v4, $v6[3]")
    ++ line (codes "sqv $v5[0], 0($3)")
    ++ line (codes "bgtz $4, filter")
    ++ line (codes "addiu $3, $3, 16")
    ++ line (codes "sqv $v30[0], 0($5)")

-- four samples times a fraction of 32768 each: the sum, rounded to the nearest number, clamped to 16 bits
abbrev pub weighed : (w x y z p q r s : ℤ) → ℤ
weighed w x y z p q r s =
    clamp16 (floor_div ((((pos 2 *ℤ (w *ℤ p) +ℤ pos 32768) +ℤ pos 2 *ℤ (x *ℤ q)) +ℤ pos 2 *ℤ (y *ℤ r)) +ℤ pos 2 *ℤ (z *ℤ s)) 65536)

-- by the coefficients in the first four lanes of a register
abbrev pub filtered : (w x y z : ℕ) → List ℕ → ℕ
filtered w x y z c =
    sixteen_bits (weighed (s16 w) (s16 x) (s16 y) (s16 z) (s16 (slice_index c 0)) (s16 (slice_index c 1)) (s16 (slice_index c 2)) (s16 (slice_index c 3)))

-- the precondition of the words: 32 bytes more of the source are read, though only three more samples are used
pub record IsFilter (from to n : ℕ) : Type 0 where
  pub source : IsArea from (n + 32)
  pub target : IsArea to n
  pub spares : SparesArea to from (n + 32)

-- what all steps from s to t do
pub record Filters (words : List ℕ) (s t : State) (from to n : ℕ) : Type 0 where
  -- each whole sample of the n bytes, and no byte outside of them changed
  pub samples : (i : ℕ) → 2 * i + 1 < n → half_at t.dmem (to + 2 * i)
      ≡ filtered (half_at s.dmem (from + 2 * i)) (half_at s.dmem (from + 2 * (i + 1))) (half_at s.dmem (from + 2 * (i + 2))) (half_at s.dmem (from + 2 * (i + 3))) (vector s.vectors 6)
  pub outside : (x : ℕ) → IsOutside to n x → byte_at t.dmem x ≡ byte_at s.dmem x
  -- pc is after the words, and nothing else changed but scalar registers 1 and 3 to 8, vector registers 1 to 5 and 30, and accumulators
  pub others : t ≡ record s {
    pc = address_after_words words s.pc;
    npc = address_after_words words s.npc;
    registers = registers_but (1 ∷ 3 ∷ 4 ∷ 5 ∷ 6 ∷ 7 ∷ 8 ∷ []) s.registers t.registers;
    vectors = vectors_but (1 ∷ 2 ∷ 3 ∷ 4 ∷ 5 ∷ 30 ∷ []) s.vectors t.vectors;
    accumulators = t.accumulators;
    dmem = t.dmem;
  }

-- from each state that is about to execute the words, with the addresses in registers 1 and 3 and the number of bytes in register 4
abbrev pub FiltersSound : List ℕ → Type 0
FiltersSound words = (s : State) → IsState s → IsAt words s
    → IsFilter (register s.registers 1) (register s.registers 3) (register s.registers 4)
    → Filters words s (steps_of (3 + 19 * vectors_for (register s.registers 4)) s) (register s.registers 1) (register s.registers 3) (register s.registers 4)
