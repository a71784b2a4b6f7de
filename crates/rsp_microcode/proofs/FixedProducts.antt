-- The product of fixed-point numbers, by four multiplies, and sums of such products.
use Rattle.std.proofs.Common.{◌≡◌, ℕ, ◌+◌, ◌-◌, ◌*◌, ◌/◌, ◌%◌, ◌^◌, ◌<◌, ◌≤◌, ℤ, pos, negsuc, ◌+ℤ◌, ◌*ℤ◌, get_or, arith, refl, ap, sym, ◌∙◌}
use Rattle.std.specs.Prelude.{◌≤ℤ◌, ◌<ℤ◌}
use Rattle.std.proofs.lemmas.Int.{ints}
use Rattle.std.proofs.Math.IntN.{+ℤ_idl, *ℤ_comm}
use Rattle.std.proofs.Math.Nat.{mul-le-mul}
use borrow.Author.Differences.{up, down}
use Rattle.rsp_numbers.specs.Numbers.{s16, s32, s48, floor_div}
use Rattle.rsp_numbers.proofs.Wrap.{s48_is}
use Rattle.rsp_multiply.specs.MultiplyRules.{unsigned_over_65536, signed_by_unsigned, unsigned_by_signed, signed_times_65536}
use Rattle.rsp_multiply.proofs.Signs.{mixed, signed}
use Rattle.rsp_lanes.specs.Lanes.{source_lane}
use Rattle.rsp_microcode.specs.Fixed.{limited, product_sum, FixedProduct, FixedPlusProduct}
use Rattle.rsp_microcode.proofs.Halves.{floored}
use Rattle.rsp_microcode.proofs.Fixed.{itself, picked, fixed_parts, fixed_sum}

-- the addends of a lane whose halves are a, b and c, d
abbrev sum : ℕ → ℕ → ℕ → ℕ → ℤ
sum a b c d = ((unsigned_over_65536 b d +ℤ signed_by_unsigned a d) +ℤ unsigned_by_signed b c) +ℤ signed_times_65536 a c

-- the whole product is 65536 times that sum, and sixteen bits more, which are dropped
multiplied_out : (x y a c : ℤ) (b d : ℕ) → a ≡ x *ℤ pos 65536 +ℤ pos b → c ≡ y *ℤ pos 65536 +ℤ pos d
    → a *ℤ c ≡ (((pos (b * d / 65536) +ℤ x *ℤ pos d) +ℤ pos b *ℤ y) +ℤ (x *ℤ y) *ℤ pos 65536) *ℤ pos 65536 +ℤ pos (b * d % 65536)
multiplied_out x y a c b d e f =
    let p : up a + 65536 * down x ≡ down a + 65536 * up x + b = omega (arith, ints) in
    let q : up c + 65536 * down y ≡ down c + 65536 * up y + d = omega (arith, ints) in
    omega (arith, ints, ap (λ n. n * up c) p, ap (λ n. n * down c) p, ap (λ n. n * up x) q, ap (λ n. n * down x) q, ap (λ n. n * b) q)

-- the product of two numbers by their halves, rounded down, is the sum of the four addends
pub whole : (a b c d : ℕ) → a < 65536 → b < 65536 → c < 65536 → d < 65536 → floor_div (s32 (a * 65536 + b) *ℤ s32 (c * 65536 + d)) 65536 ≡ sum a b c d
whole a b c d h i j k = floored _ _ (b * d % 65536) (omega arith) (multiplied_out (s16 a) (s16 c) _ _ b d (fixed_parts a b h i) (fixed_parts c d j k))

-- the sum never wraps
bounded : (l x y z : ℤ) → pos 0 ≤ℤ l → l <ℤ pos 65536 → negsuc (2 ^ 31 - 1) ≤ℤ x → x <ℤ pos (2 ^ 31) → negsuc (2 ^ 31 - 1) ≤ℤ y → y <ℤ pos (2 ^ 31)
    → negsuc (2 ^ 30 - 1) ≤ℤ z → z ≤ℤ pos (2 ^ 30) → s48 (((l +ℤ x) +ℤ y) +ℤ z *ℤ pos 65536) ≡ ((l +ℤ x) +ℤ y) +ℤ z *ℤ pos 65536
bounded l x y z a b c d e f g h = s48_is _ _ 0 0 refl (omega (arith, ints)) (omega (arith, ints))

in_range : (a b c d : ℕ) → a < 65536 → b < 65536 → c < 65536 → d < 65536 → s48 (sum a b c d) ≡ sum a b c d
in_range a b c d h i j k =
    let p = mixed a d h k in
    let q = mixed c b j i in
    let r = (signed a c h j).1 in
    let m : b * d ≤ 65535 * 65535 = let u : b ≤ 65535 = omega arith in let v : d ≤ 65535 = omega arith in mul-le-mul u v in
    let e : pos b *ℤ s16 c ≡ s16 c *ℤ pos b = *ℤ_comm (pos b) (s16 c) in
    bounded (unsigned_over_65536 b d) (s16 a *ℤ pos d) (pos b *ℤ s16 c) (s16 a *ℤ s16 c) (omega (arith, ints)) (omega (arith, ints)) p.low p.high (rw e q.low) (rw e q.high) r.low r.high

pub fixed_product : FixedProduct
fixed_product a b c d zero high low is_a is_b is_c is_d e is_high is_low i h =
    let far : product_sum a b c d i ≡ sum (get_or a i 0) (get_or b i 0) (get_or c i 0) (get_or d i 0) = rw (itself d i h, itself c i h, +ℤ_idl (unsigned_over_65536 (get_or b i 0) (get_or d i 0))) refl in
    fixed_sum (product_sum a b c d) zero high low e is_high is_low i h
    ∙ ap limited (ap s48 far ∙ in_range _ _ _ _ (is_a.1 i) (is_b.1 i) (is_c.1 i) (is_d.1 i) ∙ sym (whole _ _ _ _ (is_a.1 i) (is_b.1 i) (is_c.1 i) (is_d.1 i)))

regroup : (z p q r t : ℤ) → (((z +ℤ p) +ℤ q) +ℤ r) +ℤ t ≡ z +ℤ (((p +ℤ q) +ℤ r) +ℤ t)
regroup z p q r t = omega (arith, ints)

pub fixed_plus_product : FixedPlusProduct
fixed_plus_product z a b c d e i is_a is_b is_c is_d h =
    let j = source_lane e i in
    rw (picked c e i h, picked d e i h) (regroup z _ _ _ _
    ∙ ap (λ p. z +ℤ p) (sym (whole (get_or a i 0) (get_or b i 0) (get_or c j 0) (get_or d j 0) (is_a.1 i) (is_b.1 i) (is_c.1 j) (is_d.1 j))))
