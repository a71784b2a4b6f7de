use Rattle.std.proofs.Common.{◌∙◌, ◌<◌, pos, arith, refl, length}
use Rattle.std.proofs.lemmas.List.{length-set}
use Rattle.rsp_acc.proofs.Fill.{again, fill, filled, numbers_set}
use Rattle.rsp_acc.specs.Planes.{with_low}
use Rattle.rsp_acc.proofs.plain.PlainAccAcc.set_low.Goals as goal

pub loop-i-preserved : goal.loop-i-preserved
loop-i-preserved c =
    let n : c.loop-i.i < length c.loop-i.numbers = omega (arith, c.loop-i.invariant.0) in
    let value = c.with_low.ensures.value ∙ rw (again _ (c.self.invariant.1 c.loop-i.i), c.lane.ensures) refl in
    rw (again _ c.with_low.ensures.number)
    (length-set c.loop-i.numbers _ _ ∙ c.loop-i.invariant.0, fill _ _ _ _ (pos 0) n value c.loop-i.invariant.1, numbers_set _ _ _ n c.with_low.ensures.number c.loop-i.invariant.2)

pub returns : goal.returns
unfolding with_low
returns c = rw (← c.self.view_is) (filled _ (pos 0) _ _ c.loop-i.invariant.0 (λ h. omega arith) c.loop-i.invariant.1)

pub invariant_of-self : goal.invariant_of-self
invariant_of-self c = (c.loop-i.invariant.0, c.loop-i.invariant.2)
