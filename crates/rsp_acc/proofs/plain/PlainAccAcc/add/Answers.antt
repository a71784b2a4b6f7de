use Rattle.std.proofs.Common.{◌∙◌, ◌<◌, pos, arith, ap, length}
use Rattle.std.proofs.lemmas.List.{length-set}
use Rattle.rsp_numbers.specs.Numbers.{s48}
use Rattle.rsp_acc.proofs.Fill.{again, again_sum, fill, filled, numbers_set}
use Rattle.rsp_acc.proofs.plain.PlainAccAcc.add.Goals as goal

pub loop-i-preserved : goal.loop-i-preserved
loop-i-preserved c =
    let n : c.loop-i.i < length c.loop-i.numbers = omega (arith, c.loop-i.invariant.0) in
    let value = c.wrap48.ensures.value ∙ ap s48 (again_sum _ _ (c.self.invariant.1 c.loop-i.i) (c.whole_numbers-added.ensures.within.1 c.loop-i.i)) in
    rw (again _ c.wrap48.ensures.number)
    (length-set c.loop-i.numbers _ _ ∙ c.loop-i.invariant.0, fill _ _ _ _ (pos 0) n value c.loop-i.invariant.1, numbers_set _ _ _ n c.wrap48.ensures.number c.loop-i.invariant.2)

pub returns-clause-value : goal.returns-clause-value
returns-clause-value c = rw (← c.self.view_is, ← c.whole_numbers-added.ensures.value) (filled _ (pos 0) _ _ c.loop-i.invariant.0 (λ h. omega arith) c.loop-i.invariant.1)

pub returns-clause-within : goal.returns-clause-within
returns-clause-within c = rw (← c.self.view_is) c.self.invariant

pub invariant_of-self : goal.invariant_of-self
invariant_of-self c = (c.loop-i.invariant.0, c.loop-i.invariant.2)
