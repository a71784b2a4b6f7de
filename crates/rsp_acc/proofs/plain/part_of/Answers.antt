use Rattle.std.proofs.Common.{◌≡◌, ◌∙◌, arith, pos, ap, to_z, of_z, w64}
use Rattle.std.proofs.lemmas.Int.{ints}
use Rattle.std.specs.Int.{int_div_euclid}
use Rattle.rsp_numbers.specs.Numbers.{high, middle, low, modulo}
use Rattle.rsp_acc.proofs.Fill.{again}
use Rattle.rsp_acc.proofs.plain.part_of.Goals as goal

pub returns-in-High : goal.returns-in-High
unfolding high
returns-in-High c =
    let e : to_z w64 (of_z w64 c.div_euclid.result) ≡ c.div_euclid.result = omega (arith, ints) in
    rw c.in-High.is (c.low16.ensures ∙ ap (λ z. modulo z 65536) (e ∙ c.div_euclid.ensures ∙ ap (λ z. int_div_euclid z (pos 4294967296)) (again _ c.requires)))

pub returns-in-Middle : goal.returns-in-Middle
unfolding middle
returns-in-Middle c =
    let e : to_z w64 (of_z w64 c.div_euclid-in-Middle.result) ≡ c.div_euclid-in-Middle.result = omega (arith, ints) in
    rw c.in-Middle.is (c.low16-in-Middle.ensures ∙ ap (λ z. modulo z 65536) (e ∙ c.div_euclid-in-Middle.ensures ∙ ap (λ z. int_div_euclid z (pos 65536)) (again _ c.requires)))

pub returns-in-Low : goal.returns-in-Low
unfolding low
returns-in-Low c = rw c.in-Low.is (c.low16-in-Low.ensures ∙ ap (λ z. modulo z 65536) (again _ c.requires))
