use Rattle.std.proofs.Common.{◌∙◌, false}
use Rattle.rsp_lanes.proofs.Kit.{lane_of, each_same}
use Rattle.rsp_compare.proofs.ClipSigns.{below_zero}
use Rattle.rsp_compare.proofs.clip_parts.signs_differ.Goals as goal

pub returns : goal.returns
returns c = c.xor.ensures ∙ each_same _ _ (λ i h.
    simp (lane_of false _ _ c.is_negative.ensures.value i h, lane_of false _ _ c.is_negative-2.ensures.value i h, below_zero))
