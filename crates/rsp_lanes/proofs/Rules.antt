-- What holds of each lane holds of the instruction.
use Rattle.std.proofs.Common.{◌≡◌, ℕ, ◌<◌, List, ◌∙◌}
use Rattle.rsp_lanes.specs.Lanes.{each_lane}
use Rattle.rsp_lanes.proofs.Kit.{each_same}
use Rattle.rsp_lanes.specs.declared.flags.Flags.{Flags}
use Rattle.rsp_lanes.specs.Flags.{LaneFlags, all_flags}
use Rattle.rsp_lanes.specs.Outcome.{Rule, outcome_at, results_of, lows_of, flags_after}
use Rattle.rsp_lanes.proofs.FlagLanes.{all_same}

pub results_are : (rule : Rule) (a b : List ℕ) (f : Flags) (p : ℕ → ℕ) (xs : List ℕ) → xs ≡ each_lane p → ((i : ℕ) → i < 8 → p i ≡ (outcome_at rule a b f i).result) → xs ≡ results_of rule a b f
unfolding results_of
results_are rule a b f p xs e h = e ∙ each_same p (λ i. (outcome_at rule a b f i).result) h

pub lows_are : (rule : Rule) (a b : List ℕ) (f : Flags) (p : ℕ → ℕ) (xs : List ℕ) → xs ≡ each_lane p → ((i : ℕ) → i < 8 → p i ≡ (outcome_at rule a b f i).low) → xs ≡ lows_of rule a b f
unfolding lows_of
lows_are rule a b f p xs e h = e ∙ each_same p (λ i. (outcome_at rule a b f i).low) h

pub flags_are : (rule : Rule) (a b : List ℕ) (f : Flags) (p : ℕ → LaneFlags) (x : Flags) → x ≡ all_flags p → ((i : ℕ) → i < 8 → p i ≡ (outcome_at rule a b f i).flags) → x ≡ flags_after rule a b f
unfolding flags_after
flags_are rule a b f p x e h = e ∙ all_same p (λ i. (outcome_at rule a b f i).flags) h
