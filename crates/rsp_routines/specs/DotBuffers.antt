-- The dot product of two buffers of numbers, of any length.
use Rattle.std.specs.Prelude.{ℕ, ℤ, zero, suc, pos, ◌≡◌, ◌+◌, ◌*◌, ◌/◌, ◌%◌, ◌^◌, ◌<◌, ◌+ℤ◌, ◌*ℤ◌, ◌++◌, List, [], ◌∷◌, codes, slice_index}
use Rattle.rsp_numbers.specs.Numbers.{s16, modulo}
use Rattle.rsp_memory.specs.Memory.{half_at}
use Rattle.rsp_lanes.specs.Lanes.{each_lane}
use Rattle.rsp_scalar.specs.Registers.{register}
use Rattle.rsp_loadstore.specs.File.{vector}
use Rattle.rsp_machine.specs.State.{State, IsState}
use Rattle.rsp_machine.specs.Laws.{steps_of}
use Rattle.rsp_microcode.specs.Runs.{IsAt, address_after_words}
use Rattle.rsp_microcode.specs.Kept.{registers_but, vectors_but}
use Rattle.rsp_microcode.specs.Text.{line}
use Rattle.rsp_routines.specs.Areas.{IsArea}

-- $1 and $2 have the addresses of the numbers, $4 how many bytes each buffer has; 0 is in $v0, and 1 in each lane of $v31
abbrev pub text : List ℕ
text =
    line (codes "addu $5, $1, $4")
    ++ line (codes "addu $6, $2, $4")
    ++ line (codes "vand $v1, $v0, $v0")
    ++ line (codes "vand $v2, $v0, $v0")
    ++ line (codes "vmudh $v3, $v0, $v0")
    ++ line (codes "lrv $v1[0], 0($5)")
    ++ line (codes "lrv $v2[0], 0($6)")
    ++ line (codes "dot: vmadh $v3, $v1, $v2")
    ++ line (codes "lqv $v1[0], 0($1)")
    ++ line (codes "lqv $v2[0], 0($2)")
    ++ line (codes "addiu $4, $4, -16")
    ++ line (codes "addiu $1, $1, 16")
    ++ line (codes "bgez $4, dot")
    ++ line (codes "addiu $2, $2, 16")
    ++ line (codes "vsar $v3, $v3, $v3[0]")
    ++ line (codes "vsar $v4, $v4, $v4[1]")
    ++ line (codes "vmudm $v6, $v31, $v4[0]")
    ++ line (codes "vmadh $v5, $v31, $v3[0]")
    ++ line (codes "vmadm $v6, $v31, $v4[1]")
    ++ line (codes "vmadh $v5, $v31, $v3[1]")
    ++ line (codes "vmadm $v6, $v31, $v4[2]")
    ++ line (codes "vmadh $v5, $v31, $v3[2]")
    ++ line (codes "vmadm $v6, $v31, $v4[3]")
    ++ line (codes "vmadh $v5, $v31, $v3[3]")
    ++ line (codes "vmadm $v6, $v31, $v4[4]")
    ++ line (codes "vmadh $v5, $v31, $v3[4]")
    ++ line (codes "vmadm $v6, $v31, $v4[5]")
    ++ line (codes "vmadh $v5, $v31, $v3[5]")
    ++ line (codes "vmadm $v6, $v31, $v4[6]")
    ++ line (codes "vmadh $v5, $v31, $v3[6]")
    ++ line (codes "vmadm $v6, $v31, $v4[7]")
    ++ line (codes "vmadh $v5, $v31, $v3[7]")
    ++ line (codes "vsar $v5, $v5, $v5[1]")
    ++ line (codes "vsar $v6, $v6, $v6[2]")

-- the products of the first k numbers of each buffer, and their sum, as a whole number that never wraps
abbrev pub product_at : List ℕ → ℕ → ℕ → ℕ → ℤ
product_at memory a b i = s16 (half_at memory (a + 2 * i)) *ℤ s16 (half_at memory (b + 2 * i))

abbrev pub dot_of : List ℕ → ℕ → ℕ → ℕ → ℤ
dot_of memory a b zero = pos 0
dot_of memory a b (suc k) = dot_of memory a b k +ℤ product_at memory a b k

-- the precondition of the words: whole numbers of two bytes
pub record IsDot (first second n : ℕ) : Type 0 where
  pub first_area : IsArea first n
  pub second_area : IsArea second n
  pub whole : n % 2 ≡ 0

-- what all steps from s to t do
pub record DotsAll (words : List ℕ) (s t : State) (first second n : ℕ) : Type 0 where
  -- in each lane the two halves are the sum, modulo 2^32
  pub result : (i : ℕ) → i < 8 → slice_index (vector t.vectors 5) i * 65536 + slice_index (vector t.vectors 6) i ≡ modulo (dot_of s.dmem first second (n / 2)) (2 ^ 32)
  -- nothing else changed but scalar registers 1, 2, 4, 5 and 6, vector registers 1 to 6, the flags and the accumulators
  pub others : t ≡ record s {
    pc = address_after_words words s.pc;
    npc = address_after_words words s.npc;
    registers = registers_but (1 ∷ 2 ∷ 4 ∷ 5 ∷ 6 ∷ []) s.registers t.registers;
    vectors = vectors_but (1 ∷ 2 ∷ 3 ∷ 4 ∷ 5 ∷ 6 ∷ []) s.vectors t.vectors;
    accumulators = t.accumulators;
    flags = t.flags;
  }

-- from each state that is about to execute the words, with the addresses in registers 1 and 2 and the number of bytes in register 4
abbrev pub DotsBuffers : List ℕ → Type 0
DotsBuffers words = (s : State) → IsState s → IsAt words s → vector s.vectors 0 ≡ each_lane (λ _. 0) → vector s.vectors 31 ≡ each_lane (λ _. 1)
    → IsDot (register s.registers 1) (register s.registers 2) (register s.registers 4)
    → DotsAll words s (steps_of (34 + 7 * (register s.registers 4 / 16)) s) (register s.registers 1) (register s.registers 2) (register s.registers 4)
