-- The bounds of a range are what is not out of range.
use Rattle.std.proofs.Common.{◌≡◌, refl, ℕ, zero, suc, ◌*◌, ◌/◌, ◌%◌, ◌≤◌, Bool, true, false, arith, pos, negsuc}
use Rattle.std.specs.Prelude.{◌==◌, ◌&&◌, ◌↔◌, nat_le, nat_lt, Some, None, Err, if◌then◌else◌}
use Rattle.std.proofs.Math.Nat.{mod-zero, mul-le-mul_left, div-le_of_le-mul}
use Rattle.std.proofs.lemmas.Bool.{and_parts, eqb-true}
use Rattle.std.proofs.lemmas.Bool.Decides.{nat_tests}
use Rattle.std.proofs.lemmas.Int.{ints}
use Rattle.rsp_syntax.specs.declared.fault.AsmFaultKind.TheVariants.{OutOfRange}
use Rattle.rsp_syntax.specs.declared.operand_range.OperandRange.TheVariants.{Half, Amount, Jump, Branch, Scaled, Word}
use Rattle.rsp_syntax.specs.Statement.{or_out_of_range}
use Rattle.rsp_asm.specs.Explanations.{BoundsHold}

by_test : (b : Bool) (v : ℕ) (P : Type 0) → (b ≡ true → P) → (P → b ≡ true) → (or_out_of_range (if b then Some v else None) ≡ Err OutOfRange) ↔ ¬ P
by_test true v P given holds = (λ e. cc, λ n. absurd (n (given refl)))
by_test false v P given holds = (λ e p. let h = holds p in cc, λ n. refl)

never : (P : Type 0) → ¬ P → (or_out_of_range None ≡ Err OutOfRange) ↔ ¬ P
never P n = (λ e. n, λ m. refl)

-- a multiple of the scale, and how many times it is; of 0 only 0 is a multiple
at_most : (scale n most : ℕ) → n % scale ≡ 0 → n / scale ≤ most → n ≤ most * scale
at_most zero n most e le = omega (arith, mod-zero n, e)
at_most (suc k) n most e le =
    let times : suc k * (n / suc k) ≤ suc k * most = mul-le-mul_left (suc k) le in
    omega arith

times_at_most : (scale n most : ℕ) → n ≤ most * scale → n / scale ≤ most
times_at_most scale n most le = div-le_of_le-mul scale (omega (arith, le))

pub bounds_hold : BoundsHold
bounds_hold Half address (pos n) = by_test (nat_lt n 65536) n _ (λ t. grind (arith, nat_tests, ints)) (λ p. grind (arith, nat_tests, ints))
bounds_hold Half address (negsuc n) = by_test (nat_lt n 32768) _ _ (λ t. grind (arith, nat_tests, ints)) (λ p. grind (arith, nat_tests, ints))
bounds_hold Amount address (pos n) = by_test (nat_lt n 32) n _ (λ t. grind (arith, nat_tests, ints)) (λ p. grind (arith, nat_tests, ints))
bounds_hold Amount address (negsuc n) = never _ (λ p. grind (arith, ints))
bounds_hold Jump address (pos n) = by_test (nat_lt n 4096 && n % 4 == 0) _ _ (λ t. grind (arith, nat_tests, ints)) (λ p. grind (arith, nat_tests, ints))
bounds_hold Jump address (negsuc n) = never _ (λ p. grind (arith, ints))
bounds_hold Branch address (pos n) = by_test (nat_lt n 4096 && n % 4 == 0) _ _ (λ t. grind (arith, nat_tests, ints)) (λ p. grind (arith, nat_tests, ints))
bounds_hold Branch address (negsuc n) = never _ (λ p. grind (arith, ints))
bounds_hold (Scaled scale) address (pos n) = by_test (n % scale == 0 && nat_lt (n / scale) 64) _ _
    (λ t.
    let both = and_parts (n % scale == 0) (nat_lt (n / scale) 64) t in
    let most = at_most scale n 63 (eqb-true _ _ both.0) (grind (arith, nat_tests)) in
    (grind (arith, ints), grind (arith, ints), eqb-true _ _ both.0))
    (λ p. let few = times_at_most scale n 63 (grind (arith, ints)) in grind (arith, nat_tests))
bounds_hold (Scaled scale) address (negsuc n) = by_test (suc n % scale == 0 && nat_le (suc n / scale) 64) _ _
    (λ t.
    let both = and_parts (suc n % scale == 0) (nat_le (suc n / scale) 64) t in
    let most = at_most scale (suc n) 64 (eqb-true _ _ both.0) (grind (arith, nat_tests)) in
    (grind (arith, ints), grind (arith, ints), eqb-true _ _ both.0))
    (λ p. let few = times_at_most scale (suc n) 64 (grind (arith, ints)) in grind (arith, nat_tests))
bounds_hold Word address (pos n) = by_test (nat_lt n 4294967296) n _ (λ t. grind (arith, nat_tests, ints)) (λ p. grind (arith, nat_tests, ints))
bounds_hold Word address (negsuc n) = by_test (nat_lt n 2147483648) _ _ (λ t. grind (arith, nat_tests, ints)) (λ p. grind (arith, nat_tests, ints))
