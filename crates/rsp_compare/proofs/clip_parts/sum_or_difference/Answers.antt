use Rattle.std.proofs.Common.{◌∙◌, false, get_or}
use Rattle.rsp_compare.specs.Clips.{signs_differ}
use Rattle.rsp_lanes.proofs.Kit.{lane_of, each_same}
use Rattle.rsp_compare.proofs.ClipSigns.{sum_or_difference_is, to_bound}
use Rattle.rsp_compare.proofs.clip_parts.sum_or_difference.Goals as goal

pub returns-clause-value : goal.returns-clause-value
returns-clause-value c = c.subtract.ensures.value ∙ each_same _ _ (λ i h.
    let a = c.subtract.ensures.within.0.1 i in
    let b = c.negate.ensures.within.1 i in
    rw (lane_of 0 _ _ c.merge.ensures i h, lane_of false _ _ c.signs_differ.ensures i h, lane_of 0 _ _ c.negate.ensures.value i h)
    (to_bound (signs_differ (get_or c.args.a.now i 0) (get_or c.args.b.now i 0)) _ _ a b ∙ sum_or_difference_is _ _ a b))
