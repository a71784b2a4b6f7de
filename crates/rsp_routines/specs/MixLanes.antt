-- Two sounds mixed, by a volume each.
use Rattle.std.specs.Prelude.{ℕ, ℤ, pos, ◌≡◌, ◌+ℤ◌, ◌*ℤ◌, ◌++◌, List, codes, slice_index}
use Rattle.rsp_numbers.specs.Numbers.{s16, sixteen_bits, clamp16, floor_div}
use Rattle.rsp_lanes.specs.Lanes.{each_lane}
use Rattle.rsp_loadstore.specs.File.{vector, with_vector}
use Rattle.rsp_machine.specs.State.{State, IsState}
use Rattle.rsp_machine.specs.Laws.{steps_of}
use Rattle.rsp_microcode.specs.Runs.{IsAt, address_after_words}
use Rattle.rsp_microcode.specs.Text.{line}

-- the samples in $v1 and $v2, their volumes in lanes 0 and 1 of $v3; the mix in $v4
abbrev pub text : List ℕ
text =
    line (codes "vmulf $v4, $v1, $v3[0]")
    ++ line (codes "vmacf $v4, $v2, $v3[1]")

-- samples a and b by volumes v and w, all fractions of 32768: a v + b w, rounded to the nearest and clamped
abbrev pub mixed : ℤ → ℤ → ℤ → ℤ → ℤ
mixed a b v w = clamp16 (floor_div ((pos 2 *ℤ (a *ℤ v) +ℤ pos 2 *ℤ (b *ℤ w)) +ℤ pos 32768) 65536)

-- of eight lanes
abbrev pub mix : List ℕ → List ℕ → List ℕ → List ℕ
mix a b volumes = each_lane (λ i. sixteen_bits (mixed (s16 (slice_index a i)) (s16 (slice_index b i)) (s16 (slice_index volumes 0)) (s16 (slice_index volumes 1))))

-- what the two steps from s to t do: the mix, and nothing else changed but the accumulators, pc and npc
abbrev pub Mixes : List ℕ → State → State → Type 0
Mixes words s t = t ≡ record s {
  pc = address_after_words words s.pc;
  npc = address_after_words words s.npc;
  vectors = with_vector s.vectors 4 (mix (vector s.vectors 1) (vector s.vectors 2) (vector s.vectors 3));
  accumulators = t.accumulators;
}

-- from each state that is about to execute the words
abbrev pub MixesLanes : List ℕ → Type 0
MixesLanes words = (s : State) → IsState s → IsAt words s → Mixes words s (steps_of 2 s)
