use Rattle.std.proofs.Common.{false}
use Rattle.rsp_lanes.proofs.Kit.{lane_of, length_of}
use Rattle.rsp_lanes.specs.Flags.{flags_at}
use Rattle.rsp_compare.specs.Clips.{vcr}
use Rattle.rsp_compare.proofs.ClipRows.{vcr_is}
use Rattle.rsp_compare.proofs.ClipLanes.{row_of}
use Rattle.rsp_compare.proofs.clips.vcr.Goals as goal

pub returns : goal.returns
returns c =
    let clear = length_of _ _ c.splat-clear.ensures in
    let row = row_of vcr c.args.a.now c.args.b.now c.args.flags.now _ _ _ _ _ _
    (length_of _ _ c.merge-result.ensures) clear clear
    (length_of _ _ c.exchanged-compare.ensures.first) (length_of _ _ c.exchanged-compare.ensures.second) clear
    (λ i h. simp (
      lane_of 0 _ _ c.merge-result.ensures i h,
      lane_of 0 _ _ c.merge-bound.ensures i h,
      lane_of 0 _ _ c.not.ensures.value i h,
      lane_of false _ _ c.exchanged-compare.ensures.first i h,
      lane_of false _ _ c.exchanged-compare.ensures.second i h,
      lane_of false _ _ c.not-taken.ensures i h,
      lane_of false _ _ c.xor.ensures i h,
      lane_of false _ _ c.is_negative.ensures.value i h,
      lane_of false _ _ c.is_negative-is_negative.ensures.value i h,
      lane_of 0 _ _ c.sum_or_difference.ensures.value i h,
      lane_of false _ _ c.signs_differ-apart.ensures i h,
      lane_of false _ _ c.splat-clear.ensures i h,
    ) (vcr_is _ _ (flags_at c.args.flags.now i) (c.sum_or_difference.ensures.within.0.1 i) (c.sum_or_difference.ensures.within.1.1 i))) in
    record { value = row.value; flags = row.flags }
