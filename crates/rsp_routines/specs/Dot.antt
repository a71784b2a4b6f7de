-- The dot product of two vectors of eight numbers.
use Rattle.std.specs.Prelude.{ℕ, ℤ, ◌≡◌, ◌<◌, ◌+ℤ◌, ◌*ℤ◌, ◌++◌, List, [], ◌∷◌, codes, slice_index}
use Rattle.rsp_numbers.specs.Numbers.{s16}
use Rattle.rsp_lanes.specs.Lanes.{each_lane}
use Rattle.rsp_loadstore.specs.File.{vector}
use Rattle.rsp_machine.specs.State.{State, IsState}
use Rattle.rsp_machine.specs.Laws.{steps_of}
use Rattle.rsp_microcode.specs.Runs.{IsAt, address_after_words}
use Rattle.rsp_microcode.specs.Kept.{vectors_but}
use Rattle.rsp_microcode.specs.Fixed.{fixed, limited}
use Rattle.rsp_microcode.specs.Text.{line}

-- the numbers are in $v1 and $v2, 0 in $v0, and 1 in each lane of $v31; the result is in each lane of $v5 and $v6
abbrev pub text : List ℕ
text =
    line (codes "vmudh $v3, $v1, $v2")
    ++ line (codes "vsar $v3, $v3, $v3[0]")
    ++ line (codes "vsar $v4, $v4, $v4[1]")
    ++ line (codes "vmudm $v6, $v31, $v4[0]")
    ++ line (codes "vmadh $v5, $v31, $v3[0]")
    ++ line (codes "vmadm $v6, $v31, $v4[1]")
    ++ line (codes "vmadh $v5, $v31, $v3[1]")
    ++ line (codes "vmadm $v6, $v31, $v4[2]")
    ++ line (codes "vmadh $v5, $v31, $v3[2]")
    ++ line (codes "vmadm $v6, $v31, $v4[3]")
    ++ line (codes "vmadh $v5, $v31, $v3[3]")
    ++ line (codes "vmadm $v6, $v31, $v4[4]")
    ++ line (codes "vmadh $v5, $v31, $v3[4]")
    ++ line (codes "vmadm $v6, $v31, $v4[5]")
    ++ line (codes "vmadh $v5, $v31, $v3[5]")
    ++ line (codes "vmadm $v6, $v31, $v4[6]")
    ++ line (codes "vmadh $v5, $v31, $v3[6]")
    ++ line (codes "vmadm $v6, $v31, $v4[7]")
    ++ line (codes "vmadh $v5, $v31, $v3[7]")
    ++ line (codes "vmadn $v6, $v0, $v0")

-- the products of eight whole numbers each with its partner, and their sum, as a whole number that never wraps
abbrev pub product : List ℕ → List ℕ → ℕ → ℤ
product a b e = s16 (slice_index a e) *ℤ s16 (slice_index b e)

abbrev pub dot : List ℕ → List ℕ → ℤ
dot a b =
    ((((((product a b 0 +ℤ product a b 1) +ℤ product a b 2) +ℤ product a b 3) +ℤ product a b 4) +ℤ product a b 5) +ℤ product a b 6) +ℤ product a b 7

-- what the twenty steps from s to t do
pub record Dots (words : List ℕ) (s t : State) : Type 0 where
  -- high half and low half of the sum, clamped to 32 bits, in each lane
  pub result : (i : ℕ) → i < 8 → fixed (vector t.vectors 5) (vector t.vectors 6) i ≡ limited (dot (vector s.vectors 1) (vector s.vectors 2))
  -- nothing else changed but vector registers 3 to 6 and the accumulators
  pub others : t ≡ record s {
    pc = address_after_words words s.pc;
    npc = address_after_words words s.npc;
    vectors = vectors_but (3 ∷ 4 ∷ 5 ∷ 6 ∷ []) s.vectors t.vectors;
    accumulators = t.accumulators;
  }

-- from each state that is about to execute the words
abbrev pub DotsNumbers : List ℕ → Type 0
DotsNumbers words = (s : State) → IsState s → IsAt words s → vector s.vectors 0 ≡ each_lane (λ _. 0) → vector s.vectors 31 ≡ each_lane (λ _. 1)
    → Dots words s (steps_of 20 s)
