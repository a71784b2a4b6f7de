use Rattle.std.proofs.Common.{◌∙◌, ap, refl, false}
use Rattle.rsp_lanes.proofs.Kit.{lane_of}
use Rattle.rsp_acc.specs.Planes.{with_low}
use Rattle.rsp_lanes.proofs.Rules.{results_are, lows_are, flags_are}
use Rattle.rsp_lanes.proofs.FlagLanes.{flags_of, with_vcc}
use Rattle.rsp_compare.proofs.selects.select_op.Goals as goal

pub returns-clause-value : goal.returns-clause-value
returns-clause-value g c = results_are _ _ _ _ _ _ c.merge-result.ensures (λ i h. rw (lane_of false _ _ c.taken-taken.ensures i h) refl)

pub returns-clause-flags : goal.returns-clause-flags
returns-clause-flags g c = flags_are _ _ _ _ _ _ c.set_vcc.ensures (λ i h. rw (lane_of false _ _ c.taken-taken.ensures i h, lane_of false _ _ c.splat.ensures i h) (with_vcc _ _ _ _ (flags_of _ _ c.clear_vco.ensures i h)))

pub returns-clause-accumulator : goal.returns-clause-accumulator
returns-clause-accumulator g c = c.set_low.ensures ∙ ap (with_low _) (lows_are _ _ _ _ _ _ c.merge-result.ensures (λ i h. rw (lane_of false _ _ c.taken-taken.ensures i h) refl))
