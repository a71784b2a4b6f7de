-- What a computing instruction does, from its rule for one lane.
use Rattle.std.specs.Prelude.{ℕ, List, slice_index}
use Rattle.rsp_lanes.specs.Lanes.{each_lane}
use Rattle.rsp_lanes.specs.declared.flags.Flags.{Flags}
use Rattle.rsp_lanes.specs.Flags.{LaneFlags, flags_at, all_flags}

-- what an instruction gives for one lane: its result, the low sixteen bits of the accumulator, and the flags after it
pub record Outcome : Type 0 where
  pub result : ℕ
  pub low : ℕ
  pub flags : LaneFlags

-- the result is also the low sixteen bits of the accumulator, as in most instructions
abbrev pub plain : ℕ → LaneFlags → Outcome
plain r f = record { result = r; low = r; flags = f }

-- A rule: from a lane of vs, a lane of the selected vt, and the flags of that lane to its outcome.
abbrev pub Rule : Type 0
Rule = ℕ → ℕ → LaneFlags → Outcome

-- the outcome of lane i
abbrev pub outcome_at : Rule → List ℕ → List ℕ → Flags → ℕ → Outcome
outcome_at rule a b f i = rule (slice_index a i) (slice_index b i) (flags_at f i)

-- the results of all lanes
unfoldable pub results_of : Rule → List ℕ → List ℕ → Flags → List ℕ
results_of rule a b f = each_lane (λ i. (outcome_at rule a b f i).result)

-- the low sixteen bits of all accumulators; their other bits are kept
unfoldable pub lows_of : Rule → List ℕ → List ℕ → Flags → List ℕ
lows_of rule a b f = each_lane (λ i. (outcome_at rule a b f i).low)

-- the flags after the instruction
unfoldable pub flags_after : Rule → List ℕ → List ℕ → Flags → Flags
flags_after rule a b f = all_flags (λ i. (outcome_at rule a b f i).flags)
