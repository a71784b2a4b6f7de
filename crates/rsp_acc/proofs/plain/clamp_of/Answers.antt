use Rattle.std.proofs.Common.{◌≡◌, ◌∙◌, ap, pos, arith, to_z, of_z, w64}
use Rattle.std.proofs.lemmas.Int.{ints}
use Rattle.std.specs.Int.{int_div_euclid}
use Rattle.rsp_numbers.specs.Numbers.{modulo, low, floor_div}
use Rattle.rsp_acc.specs.Parts.{clamp_of, clamp_by}
use Rattle.rsp_acc.proofs.Fill.{again}
use Rattle.rsp_acc.proofs.plain.clamp_of.Goals as goal

pub returns : goal.returns
unfolding clamp_of low
returns c =
    let e : to_z w64 (of_z w64 c.div_euclid.result) ≡ floor_div c.args.number 65536 = omega (arith, ints) ∙ c.div_euclid.ensures ∙ ap (λ z. int_div_euclid z (pos 65536)) (again _ c.requires) in
    c.clamped.ensures ∙ ap (λ h. clamp_by c.args.clamp h c.low16.result) e ∙ ap (clamp_by c.args.clamp (floor_div c.args.number 65536)) (c.low16.ensures ∙ ap (λ z. modulo z 65536) (again _ c.requires))
