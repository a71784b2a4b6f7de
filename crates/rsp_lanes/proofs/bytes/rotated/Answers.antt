use Rattle.std.proofs.Common.{◌∙◌, ◌+◌, ◌%◌, arith}
use Rattle.rsp_lanes.proofs.ByteTables.{places_from, places_ok, at_places}
use Rattle.rsp_lanes.proofs.bytes.rotated.Goals as goal

pub swizzle : goal.swizzle
swizzle c = places_ok c.sixteen.result (λ k. (c.args.start + k) % 16) (c.sixteen.ensures ∙ places_from c.args.start) (λ k h. omega arith)

pub returns : goal.returns
returns c = at_places c.sixteen.result (λ k. (c.args.start + k) % 16) (c.sixteen.ensures ∙ places_from c.args.start) (λ k h. omega arith) c.args.bytes
