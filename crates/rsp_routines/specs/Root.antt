-- The square root of a fixed-point number: from the table of inverse roots, and a step of Newton's method.
use Rattle.std.specs.Prelude.{ℕ, ℤ, pos, ◌≡◌, ◌≤◌, ◌+◌, ◌*◌, ◌-ℤ◌, ◌*ℤ◌, ◌≤ℤ◌, ◌++◌, List, [], ◌∷◌, codes, slice_index}
use Rattle.rsp_numbers.specs.Numbers.{floor_div}
use Rattle.rsp_divide.specs.Quotients.{inverse_root_of}
use Rattle.rsp_lanes.specs.Lanes.{each_lane}
use Rattle.rsp_loadstore.specs.File.{vector}
use Rattle.rsp_machine.specs.State.{State, IsState}
use Rattle.rsp_machine.specs.Laws.{steps_of}
use Rattle.rsp_microcode.specs.Runs.{IsAt, address_after_words}
use Rattle.rsp_microcode.specs.Kept.{vectors_but}
use Rattle.rsp_microcode.specs.Fixed.{fixed, limited, fixed_product}
use Rattle.rsp_microcode.specs.Text.{line}

-- lane 0 of $v1 and $v2 holds the number, lanes 0 to 3 of $v8 hold 3, 32768, -2 and 512, and 0 is in $v0; the result is lane 0 of
-- $v11 and $v12
abbrev pub text : List ℕ
text =
    line (codes "vrsqh $v3[0], $v1[0]")
    ++ line (codes "vrsql $v4[0], $v2[0]")
    ++ line (codes "vrsqh $v3[0], $v0[0]")
    ++ line (codes "vmudl $v6, $v2, $v4")
    ++ line (codes "vmadm $v6, $v1, $v4")
    ++ line (codes "vmadn $v6, $v2, $v3")
    ++ line (codes "vmadh $v5, $v1, $v3")
    ++ line (codes "vmadn $v6, $v0, $v0")
    ++ line (codes "vmudl $v10, $v6, $v4")
    ++ line (codes "vmadm $v10, $v5, $v4")
    ++ line (codes "vmadn $v10, $v6, $v3")
    ++ line (codes "vmadh $v9, $v5, $v3")
    ++ line (codes "vmadn $v10, $v0, $v0")
    ++ line (codes "vmudn $v10, $v9, $v8[2]")
    ++ line (codes "vmadm $v9, $v8, $v8[1]")
    ++ line (codes "vmadn $v10, $v0, $v0")
    ++ line (codes "vmudl $v12, $v6, $v10")
    ++ line (codes "vmadm $v12, $v5, $v10")
    ++ line (codes "vmadn $v12, $v6, $v9")
    ++ line (codes "vmadh $v11, $v5, $v9")
    ++ line (codes "vmadn $v12, $v0, $v0")
    ++ line (codes "vmudl $v12, $v12, $v8[3]")
    ++ line (codes "vmadm $v11, $v11, $v8[3]")
    ++ line (codes "vmadn $v12, $v0, $v0")

-- One step from q, which is near 128 over the root of x, and t, which is x q: t (3 / 2 - 2 (t q / 65536)) / 128. All numbers have sixteen
-- bits of fraction, each product and quotient is rounded down, and 98304 is 3 / 2.
abbrev pub rooted : ℤ → ℤ → ℤ
rooted t q = floor_div (fixed_product t (limited (pos 98304 -ℤ pos 2 *ℤ floor_div (fixed_product t q) 65536))) 128

abbrev pub improved_root : ℤ → ℤ → ℤ
improved_root x q = rooted (fixed_product x q) q

-- How near m is to the root of x, both with sixteen bits of fraction, so to the root of the whole number 65536 x: the square of m is
-- no more than 7 x above that, and the square of m + 1 no more than 6 x below it.
pub record IsNearRoot (x m : ℕ) : Type 0 where
  pub below : m * m ≤ 65543 * x
  pub above : 65530 * x ≤ (m + 1) * (m + 1)

-- the constants of the step
pub record HasRootConstants (v : List ℕ) : Type 0 where
  pub three : slice_index v 0 ≡ 3
  pub half : slice_index v 1 ≡ 32768
  pub minus_two : slice_index v 2 ≡ 65534
  pub part : slice_index v 3 ≡ 512

-- what the steps from s to t do with the number x, which isn't negative: the step from the table's inverse root, exactly, how near
-- that is, and nothing else
pub record TakesRoot (words : List ℕ) (s t : State) (x : ℤ) : Type 0 where
  pub root : pos 0 ≤ℤ x → fixed (vector t.vectors 11) (vector t.vectors 12) 0 ≡ improved_root x (inverse_root_of x)
  pub bound : (n : ℕ) → x ≡ pos n → (m : ℕ) × (fixed (vector t.vectors 11) (vector t.vectors 12) 0 ≡ pos m) × IsNearRoot n m
  pub others : t ≡ record s {
    pc = address_after_words words s.pc;
    npc = address_after_words words s.npc;
    vectors = vectors_but (3 ∷ 4 ∷ 5 ∷ 6 ∷ 9 ∷ 10 ∷ 11 ∷ 12 ∷ []) s.vectors t.vectors;
    accumulators = t.accumulators;
    divider = t.divider;
  }

-- from each state that is about to execute the words
abbrev pub TakesRoots : List ℕ → Type 0
TakesRoots words = (s : State) → IsState s → IsAt words s → vector s.vectors 0 ≡ each_lane (λ _. 0) → HasRootConstants (vector s.vectors 8)
    → TakesRoot words s (steps_of 24 s) (fixed (vector s.vectors 1) (vector s.vectors 2) 0)
