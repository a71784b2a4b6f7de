-- Flags that VABS leaves as they were.
use Rattle.std.proofs.Common.{◌≡◌, Bool, true, false, List, ℕ, refl, sym, ◌∙◌}
use Rattle.std.specs.Prelude.{if◌then◌else◌}
use Rattle.rsp_lanes.specs.Flags.{LaneFlags, flags_at}
use Rattle.rsp_lanes.specs.declared.flags.Flags.{Flags}
use Rattle.rsp_lanes.specs.Outcome.{Outcome, flags_after}
use Rattle.rsp_lanes.proofs.FlagLanes.{all_same, whole}
use Rattle.rsp_compare.specs.Adds.{vabs}
use Rattle.rsp_machine.specs.State.{AreFlags}

either : (c : Bool) (x y : Outcome) (f : LaneFlags) → x.flags ≡ f → y.flags ≡ f → (if c then x else y).flags ≡ f
either true x y f p q = p
either false x y f p q = q

pub vabs_keeps : (v w : List ℕ) (f : Flags) → AreFlags f → flags_after vabs v w f ≡ f
unfolding flags_after
vabs_keeps v w f is = all_same _ (flags_at f) (λ i h. either _ _ _ (flags_at f i) refl refl) ∙ sym (whole f is.carry is.differ is.compare is.clip is.extra)
