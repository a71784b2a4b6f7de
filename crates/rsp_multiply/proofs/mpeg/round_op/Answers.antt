use Rattle.std.proofs.Common.{◌∙◌, pos, false}
use Rattle.rsp_lanes.proofs.Kit.{lane_of, each_same}
use Rattle.rsp_multiply.specs.Mpeg.{accumulators_after_rounding, rounding_results}
use Rattle.rsp_multiply.proofs.Roundings.{rounded_lane}
use Rattle.rsp_multiply.proofs.mpeg.round_op.Goals as goal

pub returns-clause-accumulators : goal.returns-clause-accumulators
unfolding accumulators_after_rounding
returns-clause-accumulators g c = c.add.ensures.value ∙ each_same _ _ (λ i h.
    rw (
      lane_of (pos 0) _ _ c.rounding.ensures i h,
      lane_of 0 _ _ c.merge-lanes.ensures i h,
      lane_of false _ _ c.rounding_lanes.ensures i h,
      lane_of 0 _ _ c.new.ensures i h,
    ) (rounded_lane _ c.args.odd _ _ (c.add.ensures.within.1 i)))

pub returns-clause-value : goal.returns-clause-value
unfolding rounding_results
returns-clause-value g c = c.clamp.ensures
