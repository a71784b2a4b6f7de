use Rattle.std.proofs.Common.{◌∙◌, ◌<◌, arith, ap, length}
use Rattle.std.proofs.lemmas.List.{length-set}
use Rattle.rsp_acc.specs.Parts.{part_of}
use Rattle.rsp_acc.proofs.Fill.{again, fill, filled}
use Rattle.rsp_acc.proofs.plain.PlainAccAcc.part.Goals as goal

pub loop-i-preserved : goal.loop-i-preserved
loop-i-preserved c =
    let n : c.loop-i.i < length c.loop-i.lanes = omega (arith, c.loop-i.invariant.0) in
    let value = c.part_of.ensures ∙ ap (part_of c.args.part) (again _ (c.self.invariant.1 c.loop-i.i)) in
    (length-set c.loop-i.lanes _ _ ∙ c.loop-i.invariant.0, fill _ _ _ _ 0 n value c.loop-i.invariant.1)

pub returns-clause-value : goal.returns-clause-value
returns-clause-value c = c.from_array.ensures ∙ rw (← c.self.view_is) (filled _ 0 _ _ c.loop-i.invariant.0 (λ h. omega arith) c.loop-i.invariant.1)

pub returns-clause-within : goal.returns-clause-within
returns-clause-within c = rw (← c.self.view_is) c.self.invariant
