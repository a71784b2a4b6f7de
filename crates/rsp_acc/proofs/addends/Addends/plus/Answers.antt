use Rattle.std.proofs.Common.{refl, pos, false, ◌∙◌}
use Rattle.rsp_lanes.proofs.Kit.{lane_of, each_same}
use Rattle.rsp_acc.proofs.Sum.{join_sum}
use Rattle.rsp_acc.proofs.addends.Addends.plus.Goals as goal

pub returns : goal.returns
returns c = c.from_planes.ensures ∙ each_same _ _ (λ i h.
    let v = c.planes-a_high.ensures.planes in
    let w = c.planes-b_high.ensures.planes in
    rw (
      lane_of 0 _ _ c.add_carrying-high.ensures.sum i h,
      lane_of 0 _ _ c.add_carrying-middle.ensures.sum i h,
      lane_of 0 _ _ c.add_carrying-low.ensures.sum i h,
      lane_of (pos 0) _ _ c.planes-a_high.ensures.joined i h,
      lane_of (pos 0) _ _ c.planes-b_high.ensures.joined i h,
      lane_of false _ _ c.splat.ensures i h,
    ) (join_sum _ _ _ _ _ _ (v.0.1 i) (v.1.1 i) (v.2.1 i) (w.0.1 i) (w.1.1 i) (w.2.1 i) _ _
    (lane_of false _ _ c.add_carrying-low.ensures.carry i h ∙ rw (lane_of false _ _ c.splat.ensures i h) refl)
    (lane_of false _ _ c.add_carrying-middle.ensures.carry i h)))
