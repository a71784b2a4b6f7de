-- Which flags the rows that go by a rule for one lane leave.
use Rattle.std.proofs.Common.{◌≡◌, ℕ, Bool, true, false, List, refl, sym, ap}
use Rattle.std.specs.Prelude.{if◌then◌else◌}
use Rattle.rsp_lanes.proofs.Kit.{each_same}
use Rattle.rsp_lanes.specs.declared.flags.Flags.{Flags}
use Rattle.rsp_lanes.specs.Flags.{LaneFlags, flags_at, all_flags}
use Rattle.rsp_lanes.specs.Outcome.{Outcome, outcome_at, flags_after}
use Rattle.rsp_lanes.specs.Lanes.{each_lane}
use Rattle.rsp_compare.specs.declared.adds.AddOp.{AddOp}
use Rattle.rsp_compare.specs.declared.adds.AddOp.TheVariants.{Vabs}
use Rattle.rsp_compare.specs.Adds.{add_rule}
use Rattle.rsp_compare.specs.declared.selects.SelectOp.{SelectOp}
use Rattle.rsp_compare.specs.declared.selects.MergeOp.TheVariants.{Vmrg}
use Rattle.rsp_compare.specs.Selects.{select_rule, merge_rule}
use Rattle.rsp_compare.specs.declared.logic.LogicOp.{LogicOp}
use Rattle.rsp_compare.specs.Logic.{logic_rule}

-- flags of eight lanes each
abbrev pub AreFlags : Flags → Type 0
AreFlags f = f ≡ all_flags (flags_at f)

either : (c : Bool) (x y : Outcome) (f : LaneFlags) → x.flags ≡ f → y.flags ≡ f → (if c then x else y).flags ≡ f
either true x y f p q = p
either false x y f p q = q

-- VABS leaves all flags
vabs_leaves : (part : LaneFlags → Bool) (a b : List ℕ) (f : Flags) → each_lane (λ i. part (outcome_at (add_rule Vabs) a b f i).flags) ≡ each_lane (λ i. part (flags_at f i))
vabs_leaves part a b f = each_same _ _ (λ i l. ap part (either _ _ _ (flags_at f i) refl refl))

-- what the instructions leave, with what was written back
vco_back : (f : Flags) → AreFlags f → record (all_flags (flags_at f)) { carry = f.carry; differ = f.differ } ≡ f
vco_back f e = ap (λ (g : Flags). record g { carry = f.carry; differ = f.differ }) (sym e)

pub sum-back : (op : AddOp) (a b : List ℕ) (f : Flags) → AreFlags f → record (flags_after (add_rule op) a b f) { carry = f.carry; differ = f.differ } ≡ f
unfolding flags_after
sum-back Vabs a b f e = rw (vabs_leaves (λ g. g.compare) a b f, vabs_leaves (λ g. g.clip) a b f, vabs_leaves (λ g. g.extra) a b f) (vco_back f e)
sum-back _ a b f e = vco_back f e

pub merge-back : (a b : List ℕ) (f : Flags) → AreFlags f → record (flags_after (merge_rule Vmrg) a b f) { carry = f.carry; differ = f.differ } ≡ f
unfolding flags_after
merge-back a b f e = vco_back f e

pub choice-back : (op : SelectOp) (a b : List ℕ) (f : Flags) → AreFlags f → record f { extra = (flags_after (select_rule op) a b f).extra } ≡ f
unfolding flags_after
choice-back op a b f e = ap (λ (g : Flags). record f { extra = g.extra }) (sym e)

pub logic-back : (op : LogicOp) (a b : List ℕ) (f : Flags) → AreFlags f → flags_after (logic_rule op) a b f ≡ f
unfolding flags_after
logic-back op a b f e = sym e
