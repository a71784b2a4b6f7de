-- What the instructions for MPEG coefficients add, and the sign of an accumulator.
use Rattle.std.proofs.Common.{◌≡◌, ◌∙◌, ℕ, ◌-◌, ◌/◌, ◌%◌, ◌^◌, ◌<◌, ℤ, pos, negsuc, ◌+ℤ◌, ◌*ℤ◌, Bool, true, false, cond, nat_lt, arith, refl, ap, sym}
use Rattle.std.specs.Prelude.{int_lt, if◌then◌else◌}
use Rattle.std.proofs.lemmas.Int.{ints}
use Rattle.std.proofs.lemmas.Bool.{le-ltb, lt-ltb}
use Rattle.rsp_numbers.specs.Numbers.{s16, s48, join, high, IsNumber}
use Rattle.rsp_numbers.proofs.Wrap.{s48_is}
use Rattle.rsp_numbers.proofs.Join.{join_small, join_large}
use Rattle.rsp_multiply.specs.Mpeg.{rounding}
use Rattle.rsp_multiply.proofs.Signs.{by_s16}

-- a lane as a signed number, and 65536 times as much
pub signed_lane : (b : ℕ) → b < 65536 → join (cond (nat_lt 32767 b) 65535 0) (cond (nat_lt 32767 b) 65535 0) b ≡ s16 b
signed_lane b h = by_s16 (λ k z. join k k b ≡ z) b 65535 h
    (λ n. join_small 0 0 b (omega arith) (omega arith) h ∙ ap pos (omega arith))
    (λ x e n. join_large 65535 65535 b (omega arith) (omega arith) (omega arith) h ∙ ap negsuc (omega arith))

pub shifted_lane : (b : ℕ) → b < 65536 → join (cond (nat_lt 32767 b) 65535 0) b 0 ≡ s16 b *ℤ pos 65536
shifted_lane b h = by_s16 (λ k z. join k b 0 ≡ z *ℤ pos 65536) b 65535 h
    (λ n. join_small 0 b 0 (omega arith) h (omega arith) ∙ ap pos (omega arith))
    (λ x e n. join_large 65535 b 0 (omega arith) (omega arith) h (omega arith) ∙ omega (arith, ints))

-- the sign of an accumulator is that of its high sixteen bits
pub negative_high : (x : ℤ) → IsNumber x → nat_lt 32767 (high x) ≡ int_lt x (pos 0)
unfolding high
negative_high (pos n) h =
    let b : n < 2 ^ 47 = omega (arith, ints, h.1) in
    le-ltb 32767 (n / 2 ^ 32 % 65536) (omega arith) ∙ sym (le-ltb n 0 (omega arith))
negative_high (negsuc n) h =
    let b : n < 2 ^ 47 = omega (arith, ints, h.0) in
    lt-ltb 32767 (65535 - n / 2 ^ 32 % 65536) (omega arith)

-- a lane that is 0 because nothing is rounded there adds nothing
pub rounded_lane : (adds odd : Bool) (x : ℤ) (b : ℕ) → IsNumber x → s48 (x +ℤ rounding odd (cond adds b 0)) ≡ (if adds then s48 (x +ℤ rounding odd b) else x)
rounded_lane true odd x b h = refl
rounded_lane false true x b h = s48_is _ _ 0 0 (omega (arith, ints)) h.0 h.1
rounded_lane false false x b h = s48_is _ _ 0 0 (omega (arith, ints)) h.0 h.1
