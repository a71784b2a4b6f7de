-- A number that counts no further than the limit is in a range exactly where the number itself is.
use Rattle.std.proofs.Common.{◌≡◌, sym, ap, ◌∙◌, ℕ, zero, suc, ◌+◌, ◌-◌, ◌*◌, ◌/◌, ◌%◌, ◌^◌, ◌≤◌, min, arith, ℤ, pos, negsuc, w64, inl, inr}
use Rattle.std.specs.Prelude.{◌+ℤ◌, ◌==◌, ◌&&◌, nat_le, nat_lt, Some, None}
use Rattle.std.specs.Int.{saturate_signed}
use Rattle.std.proofs.Math.Nat.{mod-zero, mul-le-mul_left}
use Rattle.std.proofs.lemmas.Bool.{cases_lt, cases_Bool, cond-false, and_parts}
use Rattle.std.proofs.lemmas.Bool.Decides.{nat_tests}
use Rattle.std.proofs.lemmas.Int.{ints}
use Rattle.rsp_syntax.specs.Capping.{capped_ℤ, number_cap}
use Rattle.rsp_syntax.specs.Statement.{scaled_offset}

-- nothing far is a multiple of a small scale, at most 64 times it
no_steps : (scale n : ℕ) → scale ≤ 255 → 1000000 ≤ n → n % scale ≡ 0 → n / scale ≤ 64 → ⊥
no_steps zero n small far e q = omega (arith, mod-zero n)
no_steps (suc k) n small far e q =
    let most : suc k * (n / suc k) ≤ suc k * 64 = mul-le-mul_left (suc k) q in
    omega arith

above : (scale n : ℕ) → scale ≤ 255 → 1000000 ≤ n → scaled_offset scale (pos n) ≡ None
above scale n small far = elim (cases_Bool (n % scale == 0 && nat_lt (n / scale) 64)) [
  | inl t ↦ absurd (let both = and_parts (n % scale == 0) (nat_lt (n / scale) 64) t in no_steps scale n small far (grind (arith, nat_tests)) (grind (arith, nat_tests)))
  | inr f ↦ cond-false (n % scale == 0 && nat_lt (n / scale) 64) (Some (n / scale)) None f
]

below : (scale n : ℕ) → scale ≤ 255 → 1000000 ≤ n → scaled_offset scale (negsuc n) ≡ None
below scale n small far = elim (cases_Bool (suc n % scale == 0 && nat_le (suc n / scale) 64)) [
  | inl t ↦ absurd (let both = and_parts (suc n % scale == 0) (nat_le (suc n / scale) 64) t in no_steps scale (suc n) small (omega arith) (grind (arith, nat_tests)) (grind (arith, nat_tests)))
  | inr f ↦ cond-false (suc n % scale == 0 && nat_le (suc n / scale) 64) (Some (128 - suc n / scale)) None f
]

difference : (base m : ℕ) → base ≤ m → pos base +ℤ negsuc m ≡ negsuc (m - base)
difference base m le = omega (arith, ints)

pub scaled_capped : (scale base : ℕ) (z : ℤ) → scale ≤ 255 → base ≤ 65535 → scaled_offset scale (saturate_signed w64 (pos base +ℤ capped_ℤ z)) ≡ scaled_offset scale (pos base +ℤ z)
scaled_capped scale base (pos n) small low = elim (cases_lt n number_cap) [
  | inl near ↦ ap (λ m. scaled_offset scale (pos m)) (omega arith)
  | inr far ↦ above scale (min (base + min n number_cap) (2 ^ 63 - 1)) small (omega arith) ∙ sym (above scale (base + n) small (omega arith))
]
scaled_capped scale base (negsuc n) small low = elim (cases_lt n number_cap) [
  | inl near ↦ ap (scaled_offset scale) (grind (arith, ints))
  | inr far ↦
      let m : ℕ = min n (number_cap - 1) in
      ap (λ z. scaled_offset scale (saturate_signed w64 z)) (difference base m (omega arith))
      ∙ below scale (min (m - base) (2 ^ 63 - 1)) small (omega arith)
      ∙ sym (below scale (n - base) small (omega arith))
      ∙ ap (scaled_offset scale) (sym (difference base n (omega arith)))
]
