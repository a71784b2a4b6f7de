use Rattle.std.proofs.Common.{◌∙◌}
use Rattle.rsp_lanes.specs.Lanes.{each_lane}
use Rattle.rsp_lanes.proofs.Products.{sign_lanes}
use Rattle.rsp_lanes.proofs.vreg.VReg.sign.Goals as goal

pub returns : goal.returns
unfolding each_lane
returns c = c.from_simd.ensures ∙ rw c.signed.ensures.value (sign_lanes c.args.self.now c.signed.ensures.within.1)
