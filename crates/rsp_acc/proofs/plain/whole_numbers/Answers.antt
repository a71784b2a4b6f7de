use Rattle.std.proofs.Common.{◌∙◌, ◌<◌, pos, arith, refl, sym, length}
use Rattle.std.proofs.lemmas.List.{length-set}
use Rattle.rsp_acc.proofs.Fill.{again, fill, filled, numbers_set}
use Rattle.rsp_acc.proofs.plain.whole_numbers.Goals as goal

pub loop-i-preserved : goal.loop-i-preserved
loop-i-preserved c =
    let n : c.loop-i.i < length c.loop-i.numbers = omega (arith, c.loop-i.invariant.0) in
    let value = c.join.ensures.value ∙ rw (c.lane.ensures, c.lane-in-loop-i.ensures, c.lane-in-loop-i-2.ensures) refl in
    rw (again _ c.join.ensures.number)
    (length-set c.loop-i.numbers _ _ ∙ c.loop-i.invariant.0, fill _ _ _ _ (pos 0) n value c.loop-i.invariant.1, numbers_set _ _ _ n c.join.ensures.number c.loop-i.invariant.2)

pub returns-clause-value : goal.returns-clause-value
returns-clause-value c = filled _ (pos 0) _ _ c.loop-i.invariant.0 (λ h. omega arith) c.loop-i.invariant.1 ∙ sym c.planes-high.ensures.joined

pub returns-clause-within : goal.returns-clause-within
returns-clause-within c = (c.loop-i.invariant.0, c.loop-i.invariant.2)
