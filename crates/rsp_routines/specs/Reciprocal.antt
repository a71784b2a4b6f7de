-- The reciprocal of a fixed-point number: from the table, and better by one step of Newton's method.
use Rattle.std.specs.Prelude.{ℕ, ℤ, pos, ◌≡◌, ◌≢◌, ◌≤◌, ◌+◌, ◌*◌, ◌-ℤ◌, ◌*ℤ◌, ◌++◌, List, [], ◌∷◌, codes, slice_index, unsigned_abs}
use Rattle.rsp_divide.specs.Quotients.{reciprocal_of}
use Rattle.rsp_lanes.specs.Lanes.{each_lane}
use Rattle.rsp_loadstore.specs.File.{vector}
use Rattle.rsp_machine.specs.State.{State, IsState}
use Rattle.rsp_machine.specs.Laws.{steps_of}
use Rattle.rsp_microcode.specs.Runs.{IsAt, address_after_words}
use Rattle.rsp_microcode.specs.Kept.{vectors_but}
use Rattle.rsp_microcode.specs.Fixed.{fixed, limited, fixed_product}
use Rattle.rsp_microcode.specs.Text.{line}

-- lane 0 of $v1 and $v2 holds the number, lanes 0 to 2 of $v8 hold 2, 1 and -2, and 0 is in $v0; the result is lane 0 of $v11 and $v12
abbrev pub text : List ℕ
text =
    line (codes "vrcph $v3[0], $v1[0]")
    ++ line (codes "vrcpl $v4[0], $v2[0]")
    ++ line (codes "vrcph $v3[0], $v0[0]")
    ++ line (codes "vmudl $v6, $v2, $v4")
    ++ line (codes "vmadm $v6, $v1, $v4")
    ++ line (codes "vmadn $v6, $v2, $v3")
    ++ line (codes "vmadh $v5, $v1, $v3")
    ++ line (codes "vmadn $v6, $v0, $v0")
    ++ line (codes "vmudh $v9, $v8, $v8[1]")
    ++ line (codes "vmadn $v10, $v6, $v8[2]")
    ++ line (codes "vmadh $v9, $v5, $v8[2]")
    ++ line (codes "vmadn $v10, $v0, $v0")
    ++ line (codes "vmudl $v12, $v4, $v10")
    ++ line (codes "vmadm $v12, $v3, $v10")
    ++ line (codes "vmadn $v12, $v4, $v9")
    ++ line (codes "vmadh $v11, $v3, $v9")
    ++ line (codes "vmadn $v12, $v0, $v0")

-- One step from q, which is near one half of 1 / x: twice q * (1 - x * q). All numbers have sixteen bits of fraction, each product is
-- rounded down, and 131072 is 2.
abbrev pub improved : ℤ → ℤ → ℤ
improved x q = fixed_product q (limited (pos 131072 -ℤ pos 2 *ℤ fixed_product x q))

-- How near r is to 2^31 / x, which is one half of 1 / x: r x differs from 2^31 by no more than 2^16 and twice the size of x.
abbrev pub IsHalfReciprocal : ℤ → ℤ → Type 0
IsHalfReciprocal x r = unsigned_abs (r *ℤ x -ℤ pos 2147483648) ≤ 65536 + 2 * unsigned_abs x

-- the constants of the step
pub record HasConstants (v : List ℕ) : Type 0 where
  pub two : slice_index v 0 ≡ 2
  pub one : slice_index v 1 ≡ 1
  pub minus_two : slice_index v 2 ≡ 65534

-- what the seventeen steps from s to t do with the number x: the step from the table's reciprocal, exactly, how near that is, and
-- nothing else
pub record Improves (words : List ℕ) (s t : State) (x : ℤ) : Type 0 where
  pub reciprocal : fixed (vector t.vectors 11) (vector t.vectors 12) 0 ≡ improved x (reciprocal_of x)
  pub bound : x ≢ pos 0 → IsHalfReciprocal x (fixed (vector t.vectors 11) (vector t.vectors 12) 0)
  pub others : t ≡ record s {
    pc = address_after_words words s.pc;
    npc = address_after_words words s.npc;
    vectors = vectors_but (3 ∷ 4 ∷ 5 ∷ 6 ∷ 9 ∷ 10 ∷ 11 ∷ 12 ∷ []) s.vectors t.vectors;
    accumulators = t.accumulators;
    divider = t.divider;
  }

-- from each state that is about to execute the words
abbrev pub ImprovesReciprocal : List ℕ → Type 0
ImprovesReciprocal words = (s : State) → IsState s → IsAt words s → vector s.vectors 0 ≡ each_lane (λ _. 0) → HasConstants (vector s.vectors 8)
    → Improves words s (steps_of 17 s) (fixed (vector s.vectors 1) (vector s.vectors 2) 0)
