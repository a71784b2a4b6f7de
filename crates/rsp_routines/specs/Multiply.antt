-- The product of fixed-point numbers: per lane a high register with the whole part and a low one with the fraction.
use Rattle.std.specs.Prelude.{ℕ, ◌≡◌, ◌<◌, ◌++◌, List, [], ◌∷◌, codes}
use Rattle.rsp_lanes.specs.Lanes.{each_lane}
use Rattle.rsp_loadstore.specs.File.{vector}
use Rattle.rsp_machine.specs.State.{State, IsState}
use Rattle.rsp_machine.specs.Laws.{steps_of}
use Rattle.rsp_microcode.specs.Runs.{IsAt, address_after_words}
use Rattle.rsp_microcode.specs.Kept.{vectors_but}
use Rattle.rsp_microcode.specs.Fixed.{fixed, fixed_product}
use Rattle.rsp_microcode.specs.Text.{line}

-- the high parts in $v1 and $v3, the low ones in $v2 and $v4, 0 in $v0; the product in $v9 and $v10
abbrev pub text : List ℕ
text =
    line (codes "vmudl $v10, $v2, $v4")
    ++ line (codes "vmadm $v10, $v1, $v4")
    ++ line (codes "vmadn $v10, $v2, $v3")
    ++ line (codes "vmadh $v9, $v1, $v3")
    ++ line (codes "vmadn $v10, $v0, $v0")

-- its words
abbrev pub words : List ℕ
words = 0x4a041284 ∷ 0x4a040a8d ∷ 0x4a03128e ∷ 0x4a030a4f ∷ 0x4a00028e ∷ []

-- what the five steps from s to t do: the product of the numbers in registers 1, 2 and 3, 4, and nothing else
pub record Multiplies (words : List ℕ) (s t : State) : Type 0 where
  pub product : (i : ℕ) → i < 8 → fixed (vector t.vectors 9) (vector t.vectors 10) i
      ≡ fixed_product (fixed (vector s.vectors 1) (vector s.vectors 2) i) (fixed (vector s.vectors 3) (vector s.vectors 4) i)
  pub others : t ≡ record s {
    pc = address_after_words words s.pc;
    npc = address_after_words words s.npc;
    vectors = vectors_but (9 ∷ 10 ∷ []) s.vectors t.vectors;
    accumulators = t.accumulators;
  }

-- from each state that is about to execute the words, with 0 in register 0
abbrev pub MultipliesFixed : List ℕ → Type 0
MultipliesFixed words = (s : State) → IsState s → IsAt words s → vector s.vectors 0 ≡ each_lane (λ _. 0) → Multiplies words s (steps_of 5 s)
