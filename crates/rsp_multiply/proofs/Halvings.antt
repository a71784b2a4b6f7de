-- The steps and the halves of an accumulator without its low sixteen bits.
use Rattle.std.proofs.Common.{◌≡◌, ◌∙◌, ℕ, ◌+◌, ◌-◌, ◌*◌, ◌/◌, ◌%◌, ◌^◌, ◌<◌, ℤ, pos, negsuc, ◌+ℤ◌, ◌*ℤ◌, cond, ◌&&◌, nat_lt, nat_eq, bit_and, arith, refl, ap, subst}
use Rattle.std.specs.Prelude.{int_lt, if◌then◌else◌, ◌≤ℤ◌}
use Rattle.std.proofs.lemmas.Int.{ints}
use Rattle.std.proofs.lemmas.Bool.{le-ltb, lt-ltb}
use Rattle.std.proofs.lemmas.Bool.Decides.{nat_tests}
use Rattle.std.proofs.lemmas.Nat.Bits.{and_high, and_high_mask}
use Rattle.rsp_numbers.specs.Numbers.{s16, s48, join, high, middle, low, floor_div, sixteen_bits, IsNumber}
use Rattle.rsp_numbers.proofs.Wrap.{s48_is}
use Rattle.rsp_numbers.proofs.Join.{join_small, join_large}
use Rattle.rsp_acc.specs.Parts.{clamp_of}
use Rattle.rsp_acc.specs.declared.parts.Clamp.TheVariants.{Signed}
use Rattle.rsp_multiply.specs.Mpeg.{vmacq_step, mpeg_result}

-- an accumulator by its upper 32 bits
pub by_upper : (P : ℕ → ℕ → ℤ → Type 0) (x : ℤ) → IsNumber x
    → ((q : ℕ) → q < 2 ^ 31 → P (q / 65536) (q % 65536) (pos q))
    → ((q : ℕ) → q < 2 ^ 31 → P (65535 - q / 65536) (65535 - q % 65536) (negsuc q))
    → P (high x) (middle x) (floor_div x 65536)
unfolding high middle
by_upper P (pos n) h p q =
    let b : n < 2 ^ 47 = omega (arith, ints, h.1) in
    let e : n / 65536 / 65536 ≡ n / 2 ^ 32 % 65536 = omega arith in
    subst (λ u. P u (n / 65536 % 65536) (pos (n / 65536))) e (p (n / 65536) (omega arith))
by_upper P (negsuc n) h p q =
    let b : n < 2 ^ 47 = omega (arith, ints, h.0) in
    let e : 65535 - n / 65536 / 65536 ≡ 65535 - n / 2 ^ 32 % 65536 = omega arith in
    subst (λ u. P u (65535 - n / 65536 % 65536) (negsuc (n / 65536))) e (q (n / 65536) (omega arith))

-- bit 5 of the middle sixteen bits
bit_5 : (m : ℕ) → bit_and m 32 ≡ m / 32 % 2 * 32
bit_5 m = and_high m 1 5

-- the step by the high and middle sixteen bits
pub step_lane : (x : ℤ) → IsNumber x
    → cond (nat_eq (high x) 0 && nat_lt (middle x) 32) 0 (cond (nat_eq (bit_and (middle x) 32) 0) (cond (nat_lt 32767 (high x)) 32 65504) 0)
    ≡ sixteen_bits (vmacq_step (floor_div x 65536))
step_lane x h = by_upper (λ u m p. cond (nat_eq u 0 && nat_lt m 32) 0 (cond (nat_eq (bit_and m 32) 0) (cond (nat_lt 32767 u) 32 65504) 0) ≡ sixteen_bits (vmacq_step p)) x h
    (λ q b. rw (bit_5 (q % 65536)) (grind (arith, nat_tests)))
    (λ q b. rw (bit_5 (65535 - q % 65536)) (grind (arith, nat_tests)))

step_again : (p : ℤ) → s16 (sixteen_bits (vmacq_step p)) ≡ vmacq_step p
step_again (pos q) = grind (arith, nat_tests)
step_again (negsuc q) = grind (arith, nat_tests)

-- the accumulator after a step
pub stepped : (x : ℤ) → IsNumber x → s48 (x +ℤ s16 (sixteen_bits (vmacq_step (floor_div x 65536))) *ℤ pos 65536) ≡ (floor_div x 65536 +ℤ vmacq_step (floor_div x 65536)) *ℤ pos 65536 +ℤ pos (low x)
unfolding low
stepped x h = rw (step_again (floor_div x 65536)) (go x h)
  where
    go : (x : ℤ) → IsNumber x → s48 (x +ℤ vmacq_step (floor_div x 65536) *ℤ pos 65536) ≡ (floor_div x 65536 +ℤ vmacq_step (floor_div x 65536)) *ℤ pos 65536 +ℤ pos (sixteen_bits x)
    go (pos n) h = s48_is _ _ 0 0 (grind (arith, nat_tests)) (grind (arith, nat_tests)) (grind (arith, nat_tests))
    go (negsuc n) h = s48_is _ _ 0 0 (grind (arith, nat_tests)) (grind (arith, nat_tests)) (grind (arith, nat_tests))

-- the halves of an accumulator without its low sixteen bits
pub half_lane : (x : ℤ) → IsNumber x
    → join ((high x * 32768 / 65536 + cond (nat_lt 32767 (high x)) 32768 0) % 65536) ((middle x * 32768 / 65536 + high x * 32768 % 65536) % 65536) 0
    ≡ floor_div (floor_div x 65536) 2 *ℤ pos 65536
half_lane x h = by_upper (λ u m p. join ((u * 32768 / 65536 + cond (nat_lt 32767 u) 32768 0) % 65536) ((m * 32768 / 65536 + u * 32768 % 65536) % 65536) 0 ≡ floor_div p 2 *ℤ pos 65536) x h
    (λ q b. rw (le-ltb 32767 (q / 65536) (omega arith)) (join_small _ _ 0 (omega arith) (omega arith) (omega arith) ∙ ap pos (omega arith)))
    (λ q b. rw (lt-ltb 32767 (65535 - q / 65536) (omega arith)) (join_large _ _ 0 (omega arith) (omega arith) (omega arith) (omega arith) ∙ omega (arith, ints)))

-- a number below its sixteen bits, and its low four bits cleared
pub shifted_back : (z : ℤ) → floor_div (z *ℤ pos 65536) 65536 ≡ z
shifted_back (pos n) = ap pos (omega arith)
shifted_back (negsuc n) =
    let e : negsuc n *ℤ pos 65536 ≡ negsuc (n * 65536 + 65535) = omega (arith, ints) in
    rw e (ap negsuc (omega arith))

pub cut : (n : ℕ) → n < 65536 → bit_and n 65520 ≡ n / 16 * 16
cut n h = and_high_mask 16 4 (omega arith) n h

-- a product, and 31 more if it is negative
pub product_rounded : (p : ℤ) → negsuc (2 ^ 30 - 1) ≤ℤ p → p ≤ℤ pos (2 ^ 30)
    → s48 (p *ℤ pos 65536 +ℤ s16 (cond (int_lt (p *ℤ pos 65536) (pos 0)) 31 0) *ℤ pos 65536) ≡ (if int_lt p (pos 0) then p +ℤ pos 31 else p) *ℤ pos 65536
product_rounded (pos n) least most = rw (le-ltb n 0 (omega arith), le-ltb (n * 65536) 0 (omega arith)) (s48_is _ _ 0 0 (omega (arith, ints)) (omega (arith, ints)) (omega (arith, ints)))
product_rounded (negsuc n) least most =
    let e : negsuc n *ℤ pos 65536 ≡ negsuc (n * 65536 + 65535) = omega (arith, ints) in
    rw e (s48_is _ _ 0 0 (omega (arith, ints)) (omega (arith, ints)) (omega (arith, ints)))

-- the clamp of a half that is 65536 times as large in an accumulator
pub half_clamped : (p : ℤ) → clamp_of Signed (floor_div p 2 *ℤ pos 65536) / 16 * 16 ≡ mpeg_result p
unfolding clamp_of
half_clamped p = rw (shifted_back (floor_div p 2)) refl
