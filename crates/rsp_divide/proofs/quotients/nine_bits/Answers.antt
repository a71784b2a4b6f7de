use Rattle.std.proofs.Common.{◌≡◌, ◌∙◌, ℕ, ◌+◌, ◌*◌, ◌/◌, ◌%◌, ◌^◌, arith, ap, sym, pow_pos}
use Rattle.std.proofs.Math.Nat.{mul-div-mul_right}
use Rattle.std.proofs.lemmas.Nat.{pow-add, and_mask, leading_top}
use Rattle.rsp_divide.proofs.quotients.nine_bits.Goals as goal

-- to shift up and then down is to shift down by the difference
shifted_down : (y z k : ℕ) → k + z ≡ 31 → y * 512 / 2 ^ k ≡ y * 2 ^ z / 2 ^ 22
shifted_down y z k e =
    let p : 2 ^ k * 2 ^ z ≡ 2 ^ 22 * 512 = sym (pow-add 2 k z) ∙ ap (λ n. 2 ^ n) e in
    let n : y * 512 * 2 ^ z ≡ y * 2 ^ z * 512 = grind (arith) in
    sym (mul-div-mul_right {m = 2 ^ z} (y * 512) (2 ^ k) (pow_pos z)) ∙ rw (p, n) (mul-div-mul_right {m = 512} (y * 2 ^ z) (2 ^ 22) (omega arith))

pub returns-clause-value : goal.returns-clause-value
returns-clause-value c =
    let f = c.ranges.y.fits in
    let t = leading_top 32 c.args.y c.requires f in
    let e : c.args.y * 512 % 2 ^ 64 ≡ c.args.y * 512 = omega (arith, f) in
    and_mask _ 9 ∙ rw e (ap (λ n. n % 512) (shifted_down c.args.y _ _ (omega (arith, t.1))))
