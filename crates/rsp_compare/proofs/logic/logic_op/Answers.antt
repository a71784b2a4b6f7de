use Rattle.std.proofs.Common.{◌∙◌, ap, refl}
use Rattle.rsp_acc.specs.Planes.{with_low}
use Rattle.rsp_lanes.proofs.Rules.{results_are, lows_are, flags_are}
use Rattle.rsp_compare.proofs.logic.logic_op.Goals as goal

pub returns-clause-value : goal.returns-clause-value
returns-clause-value g c = results_are _ _ _ _ _ _ c.bits-result.ensures (λ i h. refl)

pub returns-clause-flags : goal.returns-clause-flags
returns-clause-flags g c = flags_are _ _ _ _ _ _ c.vco.ensures.within (λ i h. refl)

pub returns-clause-accumulator : goal.returns-clause-accumulator
returns-clause-accumulator g c = c.set_low.ensures ∙ ap (with_low _) (lows_are _ _ _ _ _ _ c.bits-result.ensures (λ i h. refl))
