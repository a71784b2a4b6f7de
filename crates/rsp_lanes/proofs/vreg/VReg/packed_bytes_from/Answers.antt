use Rattle.std.proofs.Common.{◌∙◌}
use Rattle.rsp_lanes.specs.Bytes.{packed_byte}
use Rattle.rsp_lanes.proofs.ByteOrder.{rotated, packed_is}
use Rattle.rsp_lanes.proofs.vreg.VReg.packed_bytes_from.Goals as goal

pub returns : goal.returns
returns c = c.rotated.ensures ∙ rw (c.to_simd-lanes.ensures.value) (rotated (packed_byte c.args.self.now) _ c.args.i (packed_is c.args.self.now c.to_simd-lanes.ensures.vector))
