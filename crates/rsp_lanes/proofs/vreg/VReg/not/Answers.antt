use Rattle.std.proofs.Common.{◌∙◌}
use Rattle.rsp_lanes.proofs.Kit.{map_each}
use Rattle.rsp_lanes.proofs.vreg.VReg.not.Goals as goal

pub returns-clause-value : goal.returns-clause-value
returns-clause-value c = c.from_simd.ensures ∙ rw (← c.self.view_is) (map_each _ 0 _ c.self.invariant.0)
