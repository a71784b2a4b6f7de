use Rattle.std.proofs.Common.{◌∙◌, ◌+◌, ◌%◌, arith}
use Rattle.rsp_lanes.proofs.ByteOrder.{swapped}
use Rattle.rsp_lanes.proofs.ByteTables.{ordered_from, swapped_below, places_ok, register_places}
use Rattle.rsp_lanes.proofs.vreg.VReg.bytes_from.Goals as goal

pub swizzle : goal.swizzle
swizzle c = places_ok c.sixteen.result (λ k. swapped ((c.args.i + k) % 16)) (c.sixteen.ensures ∙ ordered_from c.args.i) (λ k h. swapped_below _ (omega arith))

pub returns : goal.returns
returns c = rw (c.to_simd-bytes.ensures.value) (register_places c.args.self.now c.sixteen.result c.args.i c.to_simd-bytes.ensures.vector c.sixteen.ensures)
