use Rattle.std.proofs.Common.{◌∙◌, ◌+◌, ◌%◌, get_or}
use Rattle.rsp_lanes.proofs.ByteOrder.{ordered_lanes}
use Rattle.rsp_lanes.proofs.vreg.VReg.from_rotated.Goals as goal

pub returns : goal.returns
returns c =
    c.from_simd.ensures
    ∙ rw (c.rotated-bytes.ensures, c.to_simd.ensures.value) (ordered_lanes (λ k. get_or c.args.source ((c.args.start + k) % 16) 0) (λ k. c.to_simd.ensures.bytes.1 ((c.args.start + k) % 16)))
