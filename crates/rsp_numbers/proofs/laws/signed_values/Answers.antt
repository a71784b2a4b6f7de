use Rattle.std.proofs.Common.{◌≡◌, ℕ, ◌^◌, ◌<◌, ℤ, pos, inl, inr, arith}
use Rattle.std.proofs.lemmas.Int.{ints}
use Rattle.std.proofs.lemmas.Bool.{cases_lt}
use Rattle.rsp_numbers.specs.Numbers.{s16, s32, s48}
use Rattle.rsp_numbers.specs.Laws.{IsSignedValue}
use Rattle.rsp_numbers.proofs.Signed.{s16_small, s16_large, s32_small, s32_large}
use Rattle.rsp_numbers.proofs.Wrap.{s48_differs, s48_is}
use Rattle.rsp_numbers.proofs.laws.signed_values.Goals as goal

of16 : (n : ℕ) → n < 2 ^ 16 → IsSignedValue (2 ^ 15) (pos n) (s16 n)
of16 n h = elim (cases_lt n (2 ^ 15)) [
  | inl k ↦ let e = s16_small n k in record { from = omega (arith, ints, e); below = omega (arith, ints, e); same = (0, 0, omega (arith, ints, e)) }
  | inr k ↦ let e = s16_large n k h in record { from = omega (arith, ints, e); below = omega (arith, ints, e); same = (0, 1, omega (arith, ints, e)) }
]

of32 : (n : ℕ) → n < 2 ^ 32 → IsSignedValue (2 ^ 31) (pos n) (s32 n)
of32 n h = elim (cases_lt n (2 ^ 31)) [
  | inl k ↦ let e = s32_small n k in record { from = omega (arith, ints, e); below = omega (arith, ints, e); same = (0, 0, omega (arith, ints, e)) }
  | inr k ↦ let e = s32_large n k h in record { from = omega (arith, ints, e); below = omega (arith, ints, e); same = (0, 1, omega (arith, ints, e)) }
]

of48 : (z : ℤ) → IsSignedValue (2 ^ 47) z (s48 z)
of48 z = let d = s48_differs z in record { from = d.3; below = d.4; same = (d.0, d.1, d.2) }

only16 : (n : ℕ) (r : ℤ) → n < 2 ^ 16 → IsSignedValue (2 ^ 15) (pos n) r → s16 n ≡ r
only16 n r h k = elim (cases_lt n (2 ^ 15)) [
  | inl l ↦ let e = s16_small n l in omega (arith, ints, e, k.from, k.below, k.same.2)
  | inr l ↦ let e = s16_large n l h in omega (arith, ints, e, k.from, k.below, k.same.2)
]

only32 : (n : ℕ) (r : ℤ) → n < 2 ^ 32 → IsSignedValue (2 ^ 31) (pos n) r → s32 n ≡ r
only32 n r h k = elim (cases_lt n (2 ^ 31)) [
  | inl l ↦ let e = s32_small n l in omega (arith, ints, e, k.from, k.below, k.same.2)
  | inr l ↦ let e = s32_large n l h in omega (arith, ints, e, k.from, k.below, k.same.2)
]

only48 : (z r : ℤ) → IsSignedValue (2 ^ 47) z r → s48 z ≡ r
only48 z r h = s48_is z r h.same.0 h.same.1 h.same.2 h.from h.below

pub returns : goal.returns
returns c = record { of16 = of16; of32 = of32; of48 = of48; only16 = only16; only32 = only32; only48 = only48 }
