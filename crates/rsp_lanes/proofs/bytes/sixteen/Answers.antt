use Rattle.std.proofs.Common.{◌∙◌, ◌+◌, ap, arith, get_or}
use Rattle.rsp_lanes.specs.Bytes.{each_byte}
use Rattle.rsp_lanes.proofs.ByteTables.{cut_out}
use Rattle.rsp_lanes.proofs.bytes.sixteen.Goals as goal

pub returns : goal.returns
returns c =
    cut_out c.args.places.now c.from-first.result _ (omega (arith, c.told-places, c.from-first.ensures)) (omega arith)
    ∙ ap (λ first. each_byte (λ k. get_or c.args.places.now (first + k) 0)) c.from-first.ensures
