-- Multiples of 8.
use Rattle.std.proofs.Common.{◌≡◌, ℕ, ◌*◌, ◌/◌, ◌%◌, ap, sym, ◌∙◌, arith}
use Rattle.std.proofs.Math.Nat.{mul_assoc, mul-mod_left}

-- n times a multiple of 8
pub times-whole : (n m : ℕ) → m % 8 ≡ 0 → n * m % 8 ≡ 0
times-whole n m h =
    let e : m ≡ m / 8 * 8 = omega arith in
    ap (λ k. n * k % 8) e ∙ ap (λ k. k % 8) (sym (mul_assoc n (m / 8) 8)) ∙ mul-mod_left (n * (m / 8)) 8
