use Rattle.std.proofs.Common.{◌≡◌, ◌∙◌, ap, arith, to_z, of_z, w64}
use Rattle.std.proofs.lemmas.Int.{ints, clamps}
use Rattle.rsp_numbers.specs.Numbers.{modulo, clamp16}
use Rattle.rsp_acc.proofs.plain.clamped.Goals as goal

pub returns-in-Signed : goal.returns-in-Signed
unfolding clamp16
returns-in-Signed c =
    let e = c.low16.ensures in
    let v = c.clamp.ensures.value in
    let same : to_z w64 (of_z w64 c.clamp.result) ≡ clamp16 c.args.upper = omega (arith, ints, clamps, c.clamp.ensures.value) in
    rw c.in-Signed.is (c.low16.ensures ∙ ap (λ z. modulo z 65536) same)
