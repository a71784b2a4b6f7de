use Rattle.std.proofs.Common.{◌≡◌, ◌∙◌, ◌≢◌, ℕ, ℤ, arith}
use Rattle.std.proofs.lemmas.Bool.Decides.{nat_tests}
use Rattle.rsp_lanes.proofs.Kit.{each_same}
use Rattle.rsp_multiply.specs.MultiplyRules.{sar_results, sar_lane}
use Rattle.rsp_multiply.proofs.multiplies.sar.Goals as goal

other : (e : ℕ) (x : ℤ) → e ≢ 8 → e ≢ 9 → e ≢ 10 → 0 ≡ sar_lane e x
other e x a b c = grind (arith, nat_tests)

pub returns-in-8 : goal.returns-in-8
unfolding sar_results
returns-in-8 g c = rw c.in-8.is c.part.ensures.value

pub returns-in-9 : goal.returns-in-9
unfolding sar_results
returns-in-9 g c = rw c.in-9.is c.part-in-9.ensures.value

pub returns-in-10 : goal.returns-in-10
unfolding sar_results
returns-in-10 g c = rw c.in-10.is c.part-in-10.ensures.value

pub returns-in_default : goal.returns-in_default
unfolding sar_results
returns-in_default g c =
    let not_8 : c.args.e ≢ 8 = omega arith in
    let not_9 : c.args.e ≢ 9 = omega arith in
    let not_10 : c.args.e ≢ 10 = omega arith in
    c.splat.ensures ∙ each_same _ _ (λ i h. other _ _ not_8 not_9 not_10)
