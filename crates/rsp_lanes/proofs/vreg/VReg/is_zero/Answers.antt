use Rattle.std.proofs.Common.{◌∙◌, refl}
use Rattle.rsp_lanes.proofs.Kit.{lane_of, each_same}
use Rattle.rsp_lanes.proofs.vreg.VReg.is_zero.Goals as goal

pub returns-clause-value : goal.returns-clause-value
returns-clause-value c = c.is_equal.ensures.value ∙ each_same _ _ (λ i h. rw (lane_of 0 _ _ c.new.ensures i h) refl)
