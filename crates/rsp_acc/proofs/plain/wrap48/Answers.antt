use Rattle.std.proofs.Common.{◌≡◌, ◌∙◌, arith, pos, to_z, of_z, w64, ◌+ℤ◌, ◌^◌, ap}
use Rattle.std.proofs.lemmas.Int.{ints}
use Rattle.std.specs.Int.{int_rem_euclid}
use Rattle.rsp_numbers.specs.Numbers.{s48, modulo}
use Rattle.rsp_numbers.proofs.Wrap.{rem_is_modulo}
use Rattle.rsp_acc.proofs.plain.wrap48.Goals as goal

pub returns-clause-value : goal.returns-clause-value
unfolding s48
returns-clause-value c =
    let e : to_z w64 (of_z w64 (to_z w64 (of_z w64 c.args.n) +ℤ pos (2 ^ 47))) ≡ c.args.n +ℤ pos (2 ^ 47) = omega (arith, ints) in
    let r : c.rem_euclid.result ≡ pos (modulo (c.args.n +ℤ pos (2 ^ 47)) (2 ^ 48)) = c.rem_euclid.ensures.value ∙ ap (λ z. int_rem_euclid z (pos (2 ^ 48))) e ∙ rem_is_modulo _ _ in
    omega (arith, ints, r)
