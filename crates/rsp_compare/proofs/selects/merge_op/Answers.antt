use Rattle.std.proofs.Common.{◌∙◌, ap, refl}
use Rattle.rsp_acc.specs.Planes.{with_low}
use Rattle.rsp_lanes.proofs.Rules.{results_are, lows_are, flags_are}
use Rattle.rsp_compare.proofs.Merges.{merge_is}
use Rattle.rsp_compare.specs.Selects.{vmrg}
use Rattle.rsp_compare.proofs.selects.merge_op.Goals as goal

pub returns-clause-value : goal.returns-clause-value
returns-clause-value g c = rw (merge_is c.args.op) (results_are vmrg _ _ _ _ _ c.merge-result.ensures (λ i h. refl))

pub returns-clause-flags : goal.returns-clause-flags
returns-clause-flags g c = rw (merge_is c.args.op) (flags_are vmrg _ _ _ _ _ c.clear_vco.ensures (λ i h. refl))

pub returns-clause-accumulator : goal.returns-clause-accumulator
returns-clause-accumulator g c = rw (merge_is c.args.op) (c.set_low.ensures ∙ ap (with_low _) (lows_are vmrg _ _ _ _ _ c.merge-result.ensures (λ i h. refl)))
