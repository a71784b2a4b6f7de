use Rattle.std.proofs.Common.{◌+◌, false, arith, slice_index}
use Rattle.rsp_lanes.proofs.Kit.{lane_of, length_of}
use Rattle.rsp_lanes.specs.Flags.{flags_at}
use Rattle.rsp_compare.specs.Clips.{vcl}
use Rattle.rsp_compare.proofs.ClipRows.{vcl_is}
use Rattle.rsp_compare.proofs.ClipLanes.{row_of}
use Rattle.rsp_compare.proofs.clips.vcl.Goals as goal

pub returns : goal.returns
returns c =
    let clear = length_of _ _ c.splat-clear.ensures in
    let row = row_of vcl c.args.a.now c.args.b.now c.args.flags.now _ _ _ _ _ _
    (length_of _ _ c.merge-result.ensures) clear clear
    (length_of _ _ c.choose-compare.ensures) (length_of _ _ c.choose-clip.ensures) clear
    (λ i h. simp (
      lane_of 0 _ _ c.merge-result.ensures i h,
      lane_of 0 _ _ c.merge-bound.ensures i h,
      lane_of 0 _ _ c.negate.ensures.value i h,
      lane_of false _ _ c.choose.ensures i h,
      lane_of false _ _ c.choose-compare.ensures i h,
      lane_of false _ _ c.choose-clip.ensures i h,
      lane_of false _ _ c.or-is_small.ensures i h,
      lane_of false _ _ c.and-carry_alone.ensures i h,
      lane_of false _ _ c.not.ensures i h,
      lane_of false _ _ c.not-neither.ensures i h,
      lane_of false _ _ c.or-2.ensures i h,
      lane_of false _ _ c.not-2.ensures i h,
      lane_of false _ _ c.is_below.ensures.value i h,
      lane_of false _ _ c.or.ensures i h,
      lane_of false _ _ c.and.ensures i h,
      lane_of false _ _ c.and-2.ensures i h,
      lane_of false _ _ c.is_zero-is_zero.ensures.value i h,
      lane_of false _ _ c.not-fits.ensures i h,
      lane_of 0 _ _ c.add_carrying-sum.ensures.sum i h,
      lane_of false _ _ c.add_carrying-sum.ensures.carry i h,
      lane_of false _ _ c.splat-clear.ensures i h,
    ) (vcl_is (slice_index c.args.a.now i) (slice_index c.args.b.now i) (flags_at c.args.flags.now i) (slice_index c.args.a.now i + slice_index c.args.b.now i + 0) (omega arith))) in
    record { value = row.value; flags = row.flags }
