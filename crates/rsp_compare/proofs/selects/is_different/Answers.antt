use Rattle.std.proofs.Common.{◌∙◌, refl, false}
use Rattle.rsp_lanes.proofs.Kit.{lane_of, each_same}
use Rattle.rsp_compare.proofs.Comparisons.{is_equal}
use Rattle.rsp_compare.proofs.selects.is_different.Goals as goal

pub returns : goal.returns
returns c = c.or.ensures ∙ each_same _ _ (λ i h. rw (lane_of false _ _ c.not.ensures i h, lane_of false _ _ c.is_equal.ensures.value i h, is_equal _ _ (c.is_equal.ensures.within.0.1 i) (c.is_equal.ensures.within.1.1 i)) refl)
