use Rattle.std.proofs.Common.{◌∙◌, ap}
use Rattle.rsp_acc.specs.Planes.{with_low}
use Rattle.rsp_lanes.specs.Outcome.{results_of}
use Rattle.rsp_lanes.proofs.Rules.{lows_are}
use Rattle.rsp_compare.proofs.ClipRows.{low_is}
use Rattle.rsp_compare.proofs.clips.clip_op.Goals as goal

pub returns-clause-accumulator : goal.returns-clause-accumulator
unfolding results_of
returns-clause-accumulator g c = c.set_low.ensures ∙ ap (with_low _) (lows_are _ _ _ _ _ _ c.clip-result.ensures.value (λ i h. low_is c.args.op _ _ _))
