use Rattle.std.proofs.Common.{◌∙◌, map, ap, to_z, w16}
use Rattle.rsp_lanes.proofs.Kit.{map_each}
use Rattle.rsp_lanes.proofs.ByteLanes.{lanes_again}
use Rattle.rsp_lanes.proofs.signed.signed.Goals as goal

pub returns-clause-value : goal.returns-clause-value
returns-clause-value c =
    let v = c.to_simd.ensures.vector in
    rw c.to_simd.ensures.value (ap (map (to_z w16)) (lanes_again c.args.v.now v) ∙ map_each (to_z w16) 0 c.args.v.now v.0)
