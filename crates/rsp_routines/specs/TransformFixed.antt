-- Matrices of 4 by 4 fixed-point numbers times vectors of four fixed-point numbers, two at once.
use Rattle.std.specs.Prelude.{ℕ, ℤ, ◌≡◌, ◌+◌, ◌-◌, ◌%◌, ◌<◌, ◌+ℤ◌, ◌*ℤ◌, ◌++◌, List, [], ◌∷◌, codes}
use Rattle.rsp_numbers.specs.Numbers.{s48, floor_div}
use Rattle.rsp_lanes.specs.Lanes.{each_lane}
use Rattle.rsp_loadstore.specs.File.{vector}
use Rattle.rsp_machine.specs.State.{State, IsState}
use Rattle.rsp_machine.specs.Laws.{steps_of}
use Rattle.rsp_microcode.specs.Runs.{IsAt, address_after_words}
use Rattle.rsp_microcode.specs.Kept.{vectors_but}
use Rattle.rsp_microcode.specs.Fixed.{fixed, limited}
use Rattle.rsp_microcode.specs.Text.{line}

-- $v16 to $v19 have the high halves of columns 0 to 3 of both matrices, $v20 to $v23 the low ones; $v9 and $v10 those of both vectors; 0 is
-- in $v0; the result is in $v1 and $v2
abbrev pub text : List ℕ
text =
    line (codes "vmudl $v2, $v20, $v10[0h]")
    ++ line (codes "vmadm $v2, $v16, $v10[0h]")
    ++ line (codes "vmadn $v2, $v20, $v9[0h]")
    ++ line (codes "vmadh $v1, $v16, $v9[0h]")
    ++ line (codes "vmadl $v2, $v21, $v10[1h]")
    ++ line (codes "vmadm $v2, $v17, $v10[1h]")
    ++ line (codes "vmadn $v2, $v21, $v9[1h]")
    ++ line (codes "vmadh $v1, $v17, $v9[1h]")
    ++ line (codes "vmadl $v2, $v22, $v10[2h]")
    ++ line (codes "vmadm $v2, $v18, $v10[2h]")
    ++ line (codes "vmadn $v2, $v22, $v9[2h]")
    ++ line (codes "vmadh $v1, $v18, $v9[2h]")
    ++ line (codes "vmadl $v2, $v23, $v10[3h]")
    ++ line (codes "vmadm $v2, $v19, $v10[3h]")
    ++ line (codes "vmadn $v2, $v23, $v9[3h]")
    ++ line (codes "vmadh $v1, $v19, $v9[3h]")
    ++ line (codes "vmadn $v2, $v0, $v0")

-- Number (i, k) of the matrices times coordinate k of the vector that lane i belongs to, rounded down. Lanes 0 to 3 are the rows of the first
-- matrix and the coordinates of the first vector, lanes 4 to 7 those of the second.
abbrev pub part : State → ℕ → ℕ → ℤ
part s i k = floor_div (fixed (vector s.vectors (16 + k)) (vector s.vectors (20 + k)) i *ℤ fixed (vector s.vectors 9) (vector s.vectors 10) (i - i % 4 + k)) 65536

-- Row i of a matrix times its vector: the sum of the four products, as the accumulator keeps it (modulo 2^48, with its sign), clamped to 32
-- signed bits. It wraps only if it reaches 2^47, which is 2^31 as a number: 65536 times the bound.
abbrev pub transformed : State → ℕ → ℤ
transformed s i = limited (s48 (((part s i 0 +ℤ part s i 1) +ℤ part s i 2) +ℤ part s i 3))

-- what the seventeen steps from s to t do
pub record TransformsNumbers (words : List ℕ) (s t : State) : Type 0 where
  pub product : (i : ℕ) → i < 8 → fixed (vector t.vectors 1) (vector t.vectors 2) i ≡ transformed s i
  -- nothing else changed but vector registers 1 and 2, the accumulators, pc and npc
  pub others : t ≡ record s {
    pc = address_after_words words s.pc;
    npc = address_after_words words s.npc;
    vectors = vectors_but (1 ∷ 2 ∷ []) s.vectors t.vectors;
    accumulators = t.accumulators;
  }

-- from each state that is about to execute the words, with 0 in vector register 0
abbrev pub TransformsFixed : List ℕ → Type 0
TransformsFixed words = (s : State) → IsState s → IsAt words s → vector s.vectors 0 ≡ each_lane (λ _. 0) → TransformsNumbers words s (steps_of 17 s)
