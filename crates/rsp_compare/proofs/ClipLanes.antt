-- From each lane to the whole instruction.
use Rattle.std.proofs.Common.{◌≡◌, ◌∙◌, ℕ, ◌<◌, List, length, Bool, false, ap, refl, slice_index, slice_index_or}
use Rattle.rsp_lanes.specs.Lanes.{each_lane}
use Rattle.rsp_lanes.proofs.Kit.{eta, each_same}
use Rattle.rsp_lanes.specs.declared.flags.Flags.{Flags}
use Rattle.rsp_lanes.specs.Flags.{LaneFlags, flags_at}
use Rattle.rsp_lanes.specs.Outcome.{Rule, plain, outcome_at, results_of, flags_after}

-- flags, by their lists
abbrev pub made : List Bool → List Bool → List Bool → List Bool → List Bool → Flags
made carry differ compare clip extra = record { carry = carry; differ = differ; compare = compare; clip = clip; extra = extra }

pub record IsRow (rule : Rule) (a b : List ℕ) (f : Flags) (result : List ℕ) (g : Flags) : Type 0 where
  pub value : result ≡ results_of rule a b f
  pub flags : g ≡ flags_after rule a b f

pub row_of : (rule : Rule) (a b : List ℕ) (f : Flags) (result : List ℕ) (carry differ compare clip extra : List Bool)
    → length result ≡ 8 → length carry ≡ 8 → length differ ≡ 8 → length compare ≡ 8 → length clip ≡ 8 → length extra ≡ 8
    → ((i : ℕ) → i < 8 → plain (slice_index result i) (flags_at (made carry differ compare clip extra) i) ≡ outcome_at rule a b f i)
    → IsRow rule a b f result (made carry differ compare clip extra)
unfolding results_of flags_after
row_of rule a b f result carry differ compare clip extra r c d m l x lane =
    let of : (xs : List Bool) (part : LaneFlags → Bool) → length xs ≡ 8 → ((i : ℕ) → i < 8 → slice_index_or xs i false ≡ part (outcome_at rule a b f i).flags) → xs ≡ each_lane (λ i. part (outcome_at rule a b f i).flags)
    = λ xs part n e. eta false xs n ∙ each_same _ _ e in
    record {
      value = eta 0 result r ∙ each_same _ _ (λ i h. ap (λ o. o.result) (lane i h));
      flags = rw (
        of carry (λ g. g.carry) c (λ i h. ap (λ o. o.flags.carry) (lane i h)),
        of differ (λ g. g.differ) d (λ i h. ap (λ o. o.flags.differ) (lane i h)),
        of compare (λ g. g.compare) m (λ i h. ap (λ o. o.flags.compare) (lane i h)),
        of clip (λ g. g.clip) l (λ i h. ap (λ o. o.flags.clip) (lane i h)),
        of extra (λ g. g.extra) x (λ i h. ap (λ o. o.flags.extra) (lane i h)),
      ) refl;
    }
