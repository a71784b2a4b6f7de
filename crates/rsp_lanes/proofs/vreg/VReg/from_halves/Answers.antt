use Rattle.std.proofs.Common.{◌∙◌}
use Rattle.rsp_lanes.proofs.ByteTables.{every_second}
use Rattle.rsp_lanes.proofs.vreg.VReg.from_halves.Goals as goal

pub returns : goal.returns
returns c = c.from_simd.ensures ∙ every_second c.args.source c.rotated-pairs.result c.args.start (rw (c.to_simd.ensures.value) at c.rotated-pairs.ensures) c.to_simd.ensures.bytes.1
