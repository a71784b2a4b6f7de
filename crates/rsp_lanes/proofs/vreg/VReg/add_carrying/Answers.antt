use Rattle.std.proofs.Common.{get_or, false, ◌∙◌}
use Rattle.rsp_lanes.proofs.Kit.{lane_of, each_same}
use Rattle.rsp_lanes.proofs.Carry.{carry_sum, carry_out}
use Rattle.rsp_lanes.proofs.vreg.VReg.add_carrying.Goals as goal

pub returns-clause-sum : goal.returns-clause-sum
returns-clause-sum c =
    c.add-sum.ensures.value ∙ each_same _ _ (λ i h.
    rw (lane_of 0 _ _ c.add-plain.ensures.value i h, lane_of 0 _ _ c.merge.ensures i h, lane_of 0 _ _ c.splat.ensures i h, lane_of 0 _ _ c.new.ensures i h)
    (carry_sum _ _ (get_or c.args.carry i false)))

pub returns-clause-carry : goal.returns-clause-carry
returns-clause-carry c =
    c.or.ensures ∙ each_same _ _ (λ i h.
    rw (
      lane_of false _ _ c.is_below.ensures.value i h,
      lane_of false _ _ c.is_below-2.ensures.value i h,
      lane_of 0 _ _ c.add-sum.ensures.value i h,
      lane_of 0 _ _ c.add-plain.ensures.value i h,
      lane_of 0 _ _ c.merge.ensures i h,
      lane_of 0 _ _ c.splat.ensures i h,
      lane_of 0 _ _ c.new.ensures i h,
    )
    (carry_out _ _ (get_or c.args.carry i false) (c.add-plain.ensures.within.0.1 i) (c.add-plain.ensures.within.1.1 i)))
