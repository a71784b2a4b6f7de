use Rattle.std.proofs.Common.{◌∙◌, ◌+◌, ap, arith, get_or}
use Rattle.rsp_lanes.specs.Bytes.{each_byte}
use Rattle.rsp_lanes.specs.declared.bytes.TheConstants.{DISTANCES}
use Rattle.rsp_lanes.proofs.ByteTables.{cut_out, from_last_ok, far_behind_is}
use Rattle.rsp_lanes.proofs.bytes.distances.Goals as goal

pub swizzle : goal.swizzle
swizzle c = from_last_ok

pub returns : goal.returns
returns c =
    far_behind_is _ c.args.i c.requires
    (cut_out DISTANCES c.from-first.result _ (omega (arith, c.requires, c.from-first.ensures)) (omega arith)
    ∙ ap (λ first. each_byte (λ k. get_or DISTANCES (first + k) 0)) c.from-first.ensures)
