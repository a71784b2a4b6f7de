-- Matrices of 4 by 4 fixed-point numbers times vectors of four whole numbers, two at once.
use Rattle.std.specs.Prelude.{ℕ, ℤ, ◌≡◌, ◌+◌, ◌-◌, ◌*◌, ◌%◌, ◌<◌, ◌+ℤ◌, ◌*ℤ◌, ◌++◌, List, [], ◌∷◌, codes, slice_index}
use Rattle.rsp_numbers.specs.Numbers.{s16, s48}
use Rattle.rsp_memory.specs.Memory.{byte_at}
use Rattle.rsp_lanes.specs.Lanes.{each_lane}
use Rattle.rsp_scalar.specs.Registers.{register}
use Rattle.rsp_loadstore.specs.File.{vector}
use Rattle.rsp_machine.specs.State.{State, IsState}
use Rattle.rsp_machine.specs.Laws.{steps_of}
use Rattle.rsp_microcode.specs.Runs.{IsAt, address_after_words}
use Rattle.rsp_microcode.specs.Lanes.{lanes_at, IsOutside}
use Rattle.rsp_microcode.specs.Kept.{vectors_but}
use Rattle.rsp_microcode.specs.Fixed.{fixed, limited}
use Rattle.rsp_microcode.specs.Text.{line}

-- $1 has the address of the matrices, $2 that of the vectors, $3 that of the result; 0 is in $v0
abbrev pub text : List ℕ
text =
    line (codes "lqv $v1[0], 0($1)")
    ++ line (codes "lqv $v2[0], 16($1)")
    ++ line (codes "lqv $v3[0], 32($1)")
    ++ line (codes "lqv $v4[0], 48($1)")
    ++ line (codes "lqv $v5[0], 64($1)")
    ++ line (codes "lqv $v6[0], 80($1)")
    ++ line (codes "lqv $v7[0], 96($1)")
    ++ line (codes "lqv $v8[0], 112($1)")
    ++ line (codes "lqv $v9[0], 0($2)")
    ++ line (codes "vmudn $v11, $v5, $v9[0h]")
    ++ line (codes "vmadh $v10, $v1, $v9[0h]")
    ++ line (codes "vmadn $v11, $v6, $v9[1h]")
    ++ line (codes "vmadh $v10, $v2, $v9[1h]")
    ++ line (codes "vmadn $v11, $v7, $v9[2h]")
    ++ line (codes "vmadh $v10, $v3, $v9[2h]")
    ++ line (codes "vmadn $v11, $v8, $v9[3h]")
    ++ line (codes "vmadh $v10, $v4, $v9[3h]")
    ++ line (codes "vmadn $v11, $v0, $v0")
    ++ line (codes "sqv $v10[0], 0($3)")
    ++ line (codes "sqv $v11[0], 16($3)")

-- Number (i, k) of the matrices at an address: lanes 0 to 3 are the rows of the first matrix, lanes 4 to 7 those of the second. The high
-- parts of the columns 0 to 3 come first, 16 bytes each, and the low parts after them.
abbrev pub matrix_at : List ℕ → ℕ → ℕ → ℕ → ℤ
matrix_at memory a i k = fixed (lanes_at memory (a + 16 * k)) (lanes_at memory (a + 16 * (4 + k))) i

-- Coordinate k of the vector that lane i belongs to: the first vector is in lanes 0 to 3, the second in lanes 4 to 7.
abbrev pub coordinate_at : List ℕ → ℕ → ℕ → ℕ → ℤ
coordinate_at memory a i k = s16 (slice_index (lanes_at memory a) (i - i % 4 + k))

-- Row i of a matrix times its vector: the sum of the four products, as the accumulator keeps it (modulo 2^48, with its sign), clamped to
-- 32 signed bits. Nothing is rounded, since the coordinates are whole numbers. The sum wraps only if it reaches 2^47, which is 2^31 as a
-- number: 65536 times the bound.
abbrev pub transformed : List ℕ → ℕ → ℕ → ℕ → ℤ
transformed memory matrix vector i =
    limited (s48 (((matrix_at memory matrix i 0 *ℤ coordinate_at memory vector i 0
    +ℤ matrix_at memory matrix i 1 *ℤ coordinate_at memory vector i 1)
    +ℤ matrix_at memory matrix i 2 *ℤ coordinate_at memory vector i 2)
    +ℤ matrix_at memory matrix i 3 *ℤ coordinate_at memory vector i 3))

-- the addresses in $1, $2 and $3 are multiples of 16
abbrev pub AreAligned : State → Type 0
AreAligned s = (register s.registers 1 % 16 ≡ 0) × (register s.registers 2 % 16 ≡ 0) × (register s.registers 3 % 16 ≡ 0)

-- what the twenty steps from s to t do, if $1, $2 and $3 hold these three addresses
pub record Transforms (words : List ℕ) (s t : State) (matrix vectors result : ℕ) : Type 0 where
  -- the eight numbers at the result: high parts first, then the low ones
  pub product : (i : ℕ) → i < 8 → fixed (lanes_at t.dmem result) (lanes_at t.dmem (result + 16)) i ≡ transformed s.dmem matrix vectors i
  -- no other byte of DMEM is written, nor anything else but vector registers 1 to 11, the accumulators, pc and npc
  pub outside : (x : ℕ) → IsOutside result 32 x → byte_at t.dmem x ≡ byte_at s.dmem x
  pub others : t ≡ record s {
    pc = address_after_words words s.pc;
    npc = address_after_words words s.npc;
    vectors = vectors_but (1 ∷ 2 ∷ 3 ∷ 4 ∷ 5 ∷ 6 ∷ 7 ∷ 8 ∷ 9 ∷ 10 ∷ 11 ∷ []) s.vectors t.vectors;
    accumulators = t.accumulators;
    dmem = t.dmem;
  }

-- from each state that is about to execute the words, with aligned addresses and 0 in vector register 0
abbrev pub TransformsVectors : List ℕ → Type 0
TransformsVectors words = (s : State) → IsState s → IsAt words s → vector s.vectors 0 ≡ each_lane (λ _. 0) → AreAligned s
    → Transforms words s (steps_of 20 s) (register s.registers 1) (register s.registers 2) (register s.registers 3)
