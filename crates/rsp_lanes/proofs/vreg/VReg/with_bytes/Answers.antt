use Rattle.std.proofs.Common.{◌∙◌}
use Rattle.rsp_lanes.proofs.ByteOrder.{with_register_bytes_is}
use Rattle.rsp_lanes.proofs.ByteTables.{far_behind_ok, far_behind_distances}
use Rattle.rsp_lanes.proofs.vreg.VReg.with_bytes.Goals as goal

pub swizzle-moved : goal.swizzle-moved
swizzle-moved c = far_behind_ok c.distances-behind.result c.args.i c.requires.first c.distances-behind.ensures

pub returns : goal.returns
returns c =
    c.from_simd.ensures
    ∙ rw (c.to_simd.ensures.value, c.to_simd-2.ensures.value)
    (with_register_bytes_is c.args.self.now c.args.source c.distances-behind.result c.args.i c.args.n c.to_simd-2.ensures.vector c.to_simd.ensures.bytes.1 c.requires.first c.requires.count (c.distances-behind.ensures ∙ far_behind_distances c.args.i))
