use Rattle.std.proofs.Common.{◌∙◌}
use Rattle.rsp_lanes.proofs.Kit.{zip2_each}
use Rattle.rsp_lanes.proofs.vreg.VReg.and.Goals as goal

pub returns-clause-value : goal.returns-clause-value
returns-clause-value c = c.from_simd.ensures ∙ rw (← c.self.view_is, ← c.other.view_is) (zip2_each _ 0 0 _ _ c.self.invariant.0 c.other.invariant.0)
