use Rattle.std.proofs.Common.{◌∙◌, ◌+◌, ◌%◌, get_or}
use Rattle.rsp_lanes.proofs.ByteOrder.{scaled}
use Rattle.rsp_lanes.proofs.vreg.VReg.unpacked_from.Goals as goal

pub returns : goal.returns
returns c =
    c.from_simd.ensures
    ∙ rw (c.rotated-bytes.ensures, c.to_simd.ensures.value) (scaled (λ i. get_or c.args.source ((c.args.start + i) % 16) 0) c.args.factor (λ i. c.to_simd.ensures.bytes.1 ((c.args.start + i) % 16)) c.requires)
