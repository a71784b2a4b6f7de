-- Samples between samples, in a straight line.
use Rattle.std.specs.Prelude.{ℕ, ℤ, pos, ◌≡◌, ◌-◌, ◌<◌, ◌+ℤ◌, ◌*ℤ◌, ◌++◌, List, [], ◌∷◌, codes, slice_index}
use Rattle.rsp_numbers.specs.Numbers.{s16, sixteen_bits, clamp16, floor_div}
use Rattle.rsp_lanes.specs.Lanes.{each_lane}
use Rattle.rsp_loadstore.specs.File.{vector}
use Rattle.rsp_machine.specs.State.{State, IsState}
use Rattle.rsp_machine.specs.Laws.{steps_of}
use Rattle.rsp_microcode.specs.Runs.{IsAt, address_after_words}
use Rattle.rsp_microcode.specs.Kept.{vectors_but}
use Rattle.rsp_microcode.specs.Text.{line}

-- $v1 has the samples before, $v2 those after, $v3 how far it is from one to the other as a fraction of 65536, unsigned; 0 is in
-- $v0, and 1 in lane 0 of $v5
abbrev pub text : List ℕ
text =
    line (codes "vnor $v6, $v3, $v0")
    ++ line (codes "vmudm $v4, $v1, $v6")
    ++ line (codes "vmadm $v4, $v1, $v5[0]")
    ++ line (codes "vmadm $v4, $v2, $v3")

-- a (65536 - f) + b f, over 65536, rounded down; it lies between a and b, so it is never clamped
abbrev pub between : ℤ → ℤ → ℕ → ℤ
between a b f = clamp16 (floor_div (a *ℤ pos (65536 - f) +ℤ b *ℤ pos f) 65536)

-- what the four steps from s to t do
pub record Resamples (words : List ℕ) (s t : State) : Type 0 where
  pub samples : (i : ℕ) → i < 8 → slice_index (vector t.vectors 4) i
      ≡ sixteen_bits (between (s16 (slice_index (vector s.vectors 1) i)) (s16 (slice_index (vector s.vectors 2) i)) (slice_index (vector s.vectors 3) i))
  -- nothing else changed but vector registers 4 and 6 and the accumulators
  pub others : t ≡ record s {
    pc = address_after_words words s.pc;
    npc = address_after_words words s.npc;
    vectors = vectors_but (4 ∷ 6 ∷ []) s.vectors t.vectors;
    accumulators = t.accumulators;
  }

-- from each state that is about to execute the words
abbrev pub ResamplesSound : List ℕ → Type 0
ResamplesSound words = (s : State) → IsState s → IsAt words s → vector s.vectors 0 ≡ each_lane (λ _. 0) → slice_index (vector s.vectors 5) 0 ≡ 1
    → Resamples words s (steps_of 4 s)
