use Rattle.std.proofs.Common.{◌≡◌, ◌∙◌, arith, pos, ap}
use Rattle.std.proofs.lemmas.Int.{ints}
use Rattle.std.specs.Int.{int_rem_euclid}
use Rattle.rsp_numbers.specs.Numbers.{modulo}
use Rattle.rsp_numbers.proofs.Wrap.{rem_is_modulo}
use Rattle.rsp_acc.proofs.Fill.{again, with_low_is}
use Rattle.rsp_acc.proofs.plain.with_low.Goals as goal

pub returns-clause-value : goal.returns-clause-value
returns-clause-value c =
    let r : c.rem_euclid.result ≡ pos (modulo c.args.number 65536) = c.rem_euclid.ensures.value ∙ ap (λ z. int_rem_euclid z (pos 65536)) (again _ c.requires) ∙ rem_is_modulo _ _ in
    omega (arith, ints, r, with_low_is c.args.number c.args.low c.requires c.ranges.low.fits)
