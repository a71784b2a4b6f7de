-- The shortest microcode: one VADD.
use Rattle.std.specs.Prelude.{ℕ, ◌≡◌, ◌+ℤ◌, false, List, [], ◌∷◌, codes, slice_index}
use Rattle.rsp_numbers.specs.Numbers.{s16, sixteen_bits, clamp16}
use Rattle.rsp_lanes.specs.Lanes.{each_lane}
use Rattle.rsp_loadstore.specs.File.{vector, with_vector}
use Rattle.rsp_machine.specs.State.{State}
use Rattle.rsp_machine.specs.Laws.{steps_of}
use Rattle.rsp_microcode.specs.Runs.{IsAt, address_after_words}
use Rattle.rsp_microcode.specs.Text.{line}

abbrev pub text : List ℕ
text = line (codes "vadd $v3, $v1, $v2")

-- lane by lane the sum as signed numbers, clamped to -32768 .. 32767
abbrev pub limited_sums : List ℕ → List ℕ → List ℕ
limited_sums v w = each_lane (λ i. sixteen_bits (clamp16 (s16 (slice_index v i) +ℤ s16 (slice_index w i))))

-- what the step from s to t does: the sums are in register 3, and nothing else changed but flags, accumulators, pc and npc
abbrev pub Adds : List ℕ → State → State → Type 0
Adds words s t = t ≡ record s {
  pc = address_after_words words s.pc;
  npc = address_after_words words s.npc;
  vectors = with_vector s.vectors 3 (limited_sums (vector s.vectors 1) (vector s.vectors 2));
  flags = t.flags;
  accumulators = t.accumulators;
}

-- from each state that is about to execute the word, with clear carry flags
abbrev pub AddsLanes : List ℕ → Type 0
AddsLanes words = (s : State) → IsAt words s → s.flags.carry ≡ each_lane (λ _. false) → Adds words s (steps_of 1 s)

-- Another word, vsub $v3, $v1, $v2, doesn't do it: there is a state after which the vector registers are others.
abbrev pub SubtractingDiffers : Type 0
SubtractingDiffers = AddsLanes (0x4a0208d1 ∷ []) → ⊥
