-- Reciprocals and inverse square roots of fixed-point numbers.
use Rattle.std.proofs.Common.{◌≡◌, ℕ, ◌+◌, ◌-◌, ◌*◌, ◌/◌, ◌%◌, ◌^◌, ◌<◌, ℤ, pos, negsuc, List, [], ◌∷◌, get_or, set, Bool, true, false, refl, ap, sym, ◌∙◌, arith}
use Rattle.std.specs.Prelude.{◌≢◌, ◌≤ℤ◌, ◌<ℤ◌, ◌-ℤ◌, if◌then◌else◌, ◌==◌, int_lt, unsigned_abs}
use Rattle.std.specs.Ordering.{int_eq}
use Rattle.std.proofs.lemmas.Int.{ints}
use Rattle.std.proofs.lemmas.List.{get_or-set_same}
use Rattle.std.proofs.Math.Nat.{div-le_self}
use Rattle.rsp_numbers.specs.Numbers.{s32, sixteen_bits, upper_bits}
use Rattle.rsp_numbers.proofs.Signed.{s32_small, s32_large}
use Rattle.rsp_decode.specs.declared.inst.Inst.TheVariants.{Divide}
use Rattle.rsp_decode.specs.declared.vector.VectorDivideOp.TheVariants.{Vrcph, Vrcpl, Vrsqh, Vrsql}
use Rattle.rsp_divide.specs.DivideRules.{vd_after, divider_after}
use Rattle.rsp_divide.specs.Quotients.{reciprocal_of, inverse_root_of, quotient_of, reciprocal_bits, root_bits, root_index, nine_bits, zeros, magnitude_of}
use Rattle.rsp_divide.specs.Entries.{reciprocal_entry, root_entry}
use Rattle.rsp_loadstore.specs.File.{IsFile, vector, with_vector}
use Rattle.rsp_machine.specs.State.{State}
use Rattle.rsp_machine.specs.Step.{executed, instruction_effect}
use Rattle.rsp_machine.specs.Vector.{divides}
use Rattle.rsp_microcode.specs.Fixed.{fixed}
use Rattle.rsp_microcode.specs.Reciprocals.{Reciprocals, Roots}
use Rattle.rsp_microcode.proofs.Multiplies.{read_same, read_other}
use Rattle.rsp_microcode.proofs.Ranges.{ranges}

-- a number of 32 bits by its halves
abbrev Is32 : ℤ → Type 0
Is32 z = (negsuc (2 ^ 31 - 1) ≤ℤ z) × (z <ℤ pos (2 ^ 31))

halves_of : (q : ℤ) → Is32 q → s32 (upper_bits q * 65536 + sixteen_bits q) ≡ q
halves_of (pos n) (h, k) =
    let e : upper_bits (pos n) * 65536 + sixteen_bits (pos n) ≡ n = omega (arith, ints) in
    rw e (s32_small n (omega (arith, ints)))
halves_of (negsuc n) (h, k) =
    let e : upper_bits (negsuc n) * 65536 + sixteen_bits (negsuc n) ≡ 2 ^ 32 - 1 - n = omega (arith, ints) in
    rw (e, s32_large (2 ^ 32 - 1 - n) (omega (arith, ints)) (omega arith)) (ap negsuc (omega (arith, ints)))

-- what a table gives is one
either : (b : Bool) (x y : ℕ) → x < 65536 → y < 65536 → (if b then x else y) < 65536
either true x y h k = h
either false x y h k = k

entry_small : (i : ℕ) → reciprocal_entry i < 65536
entry_small i = either (i == 0) 65535 ((2 ^ 34 / (512 + i) + 1) / 256 % 65536) (omega arith) (omega arith)

root_small : (i : ℕ) → root_entry i < 65536
unfolding root_entry
root_small i = omega arith

scaled_small : (e d : ℕ) → e < 65536 → (65536 + e) * 2 ^ 14 / d < 2 ^ 31
scaled_small e d h = omega (arith, div-le_self ((65536 + e) * 2 ^ 14) d)

bits_small : (y : ℕ) → reciprocal_bits y < 2 ^ 31
unfolding reciprocal_bits
bits_small y = scaled_small (reciprocal_entry (nine_bits y)) (2 ^ (31 - zeros y)) (entry_small (nine_bits y))

pub root_bits_small : (y : ℕ) → root_bits y < 2 ^ 31
unfolding root_bits
root_bits_small y = scaled_small (root_entry (root_index y)) (2 ^ ((31 - zeros y) / 2)) (root_small (root_index y))

pos_is : (n : ℕ) → n < 2 ^ 31 → Is32 (pos n)
pos_is n h = (omega (arith, ints), omega (arith, ints))

neg_is : (n : ℕ) → n < 2 ^ 31 → Is32 (negsuc n)
neg_is n h = (omega (arith, ints), omega (arith, ints))

one_is : (b : Bool) (x y : ℤ) → Is32 x → Is32 y → Is32 (if b then x else y)
one_is true x y h k = h
one_is false x y h k = k

minus_is : (n : ℕ) → n < 2 ^ 31 → Is32 (negsuc 0 -ℤ pos n)
minus_is n h = (omega (arith, ints), omega (arith, ints))

quotient_is : (bits : ℕ → ℕ) → ((y : ℕ) → bits y < 2 ^ 31) → (x : ℤ) → Is32 (quotient_of bits x)
quotient_is bits small x =
    let above = pos (bits (unsigned_abs x)) in
    let below = negsuc 0 -ℤ pos (bits (magnitude_of x)) in
    let signed = if int_lt x (pos 0) then below else above in
    one_is (int_eq x (pos 0)) (pos 2147483647) (if int_eq x (negsuc 32767) then negsuc 65535 else signed) (pos_is 2147483647 (omega arith))
    (one_is (int_eq x (negsuc 32767)) (negsuc 65535) signed (neg_is 65535 (omega arith))
    (one_is (int_lt x (pos 0)) below above (minus_is (bits (magnitude_of x)) (small (magnitude_of x))) (pos_is (bits (unsigned_abs x)) (small (unsigned_abs x)))))

-- lane 0 of a register whose lane 0 was written
lane_0 : (file : List (List ℕ)) (n x : ℕ) → n < 32 → IsFile file → get_or (vector (with_vector file n (set (vector file n) 0 x)) n) 0 0 ≡ x
lane_0 file n x h is = ap (λ v. get_or v 0 0) (read_same file n _ (omega (arith, is.count))) ∙ get_or-set_same (vector file n) 0 x 0 (omega (arith, (is.registers n h).0))

-- the number that the second instruction takes
abbrev operand_of : State → ℕ → ℕ → State → ℤ
operand_of s a b u = s32 (get_or (vector s.vectors a) 0 0 * 65536 + get_or (vector u.vectors b) 0 0)

-- the two halves that the second and the third instruction write
module _ (of : ℤ → ℤ) (fits : (x : ℤ) → Is32 (of x)) (high low a b : ℕ) (s u v t : State) where
  written : IsFile u.vectors → IsFile v.vectors → high < 32 → low < 32 → high ≢ low → b ≢ high → (x : ℕ)
      → u.vectors ≡ with_vector s.vectors high (set (vector s.vectors high) 0 x)
      → v.vectors ≡ with_vector u.vectors low (set (vector u.vectors low) 0 (sixteen_bits (of (operand_of s a b u))))
      → t.vectors ≡ with_vector v.vectors high (set (vector v.vectors high) 0 (upper_bits (of (operand_of s a b u))))
      → fixed (vector t.vectors high) (vector t.vectors low) 0 ≡ of (fixed (vector s.vectors a) (vector s.vectors b) 0)
  written is_u is_v h l apart other x first second third =
      let q = of (operand_of s a b u) in
      let top : get_or (vector t.vectors high) 0 0 ≡ upper_bits q = ap (λ f. get_or (vector f high) 0 0) third ∙ lane_0 v.vectors high _ h is_v in
      let bottom : get_or (vector t.vectors low) 0 0 ≡ sixteen_bits q =
      ap (λ f. get_or (vector f low) 0 0) third ∙ ap (λ w. get_or w 0 0) (read_other v.vectors high low _ (λ p. apart (sym p)))
      ∙ ap (λ f. get_or (vector f low) 0 0) second ∙ lane_0 u.vectors low _ l is_u in
      let same : vector u.vectors b ≡ vector s.vectors b = ap (λ f. vector f b) first ∙ read_other s.vectors high b _ other in
      rw (top, bottom) (halves_of q (fits (operand_of s a b u))) ∙ ap (λ w. of (s32 (get_or (vector s.vectors a) 0 0 * 65536 + get_or w 0 0))) same

first_writes : (high a : ℕ) (s : State) → (executed (Divide Vrcph high 0 a 8) s).vectors ≡ with_vector s.vectors high (set (vector s.vectors high) 0 s.divider.output)
unfolding executed instruction_effect divides vd_after
first_writes high a s = refl

second_writes : (high low a b : ℕ) (s : State) →
    let u = executed (Divide Vrcph high 0 a 8) s in
    (executed (Divide Vrcpl low 0 b 8) u).vectors ≡ with_vector u.vectors low (set (vector u.vectors low) 0 (sixteen_bits (reciprocal_of (operand_of s a b u))))
unfolding executed instruction_effect divides vd_after divider_after
second_writes high low a b s = refl

third_writes : (high low a b c : ℕ) (s : State) →
    let u = executed (Divide Vrcph high 0 a 8) s in
    let v = executed (Divide Vrcpl low 0 b 8) u in
    (executed (Divide Vrcph high 0 c 8) v).vectors ≡ with_vector v.vectors high (set (vector v.vectors high) 0 (upper_bits (reciprocal_of (operand_of s a b u))))
unfolding executed instruction_effect divides vd_after divider_after
third_writes high low a b c s = refl

pub reciprocals : Reciprocals
reciprocals high low a b c s is h l apart other t e =
    let u = executed (Divide Vrcph high 0 a 8) s in
    let v = executed (Divide Vrcpl low 0 b 8) u in
    let is_u = (ranges (Divide Vrcph high 0 a 8 ∷ []) s refl refl is).vectors in
    let is_v = (ranges (Divide Vrcph high 0 a 8 ∷ Divide Vrcpl low 0 b 8 ∷ []) s refl refl is).vectors in
    written reciprocal_of (quotient_is reciprocal_bits bits_small) high low a b s u v t is_u is_v h l apart other s.divider.output
    (first_writes high a s) (second_writes high low a b s) (ap (λ (x : State). x.vectors) e ∙ third_writes high low a b c s)

first_root : (high a : ℕ) (s : State) → (executed (Divide Vrsqh high 0 a 8) s).vectors ≡ with_vector s.vectors high (set (vector s.vectors high) 0 s.divider.output)
unfolding executed instruction_effect divides vd_after
first_root high a s = refl

second_root : (high low a b : ℕ) (s : State) →
    let u = executed (Divide Vrsqh high 0 a 8) s in
    (executed (Divide Vrsql low 0 b 8) u).vectors ≡ with_vector u.vectors low (set (vector u.vectors low) 0 (sixteen_bits (inverse_root_of (operand_of s a b u))))
unfolding executed instruction_effect divides vd_after divider_after
second_root high low a b s = refl

third_root : (high low a b c : ℕ) (s : State) →
    let u = executed (Divide Vrsqh high 0 a 8) s in
    let v = executed (Divide Vrsql low 0 b 8) u in
    (executed (Divide Vrsqh high 0 c 8) v).vectors ≡ with_vector v.vectors high (set (vector v.vectors high) 0 (upper_bits (inverse_root_of (operand_of s a b u))))
unfolding executed instruction_effect divides vd_after divider_after
third_root high low a b c s = refl

pub roots : Roots
roots high low a b c s is h l apart other t e =
    let u = executed (Divide Vrsqh high 0 a 8) s in
    let v = executed (Divide Vrsql low 0 b 8) u in
    let is_u = (ranges (Divide Vrsqh high 0 a 8 ∷ []) s refl refl is).vectors in
    let is_v = (ranges (Divide Vrsqh high 0 a 8 ∷ Divide Vrsql low 0 b 8 ∷ []) s refl refl is).vectors in
    written inverse_root_of (quotient_is root_bits root_bits_small) high low a b s u v t is_u is_v h l apart other s.divider.output
    (first_root high a s) (second_root high low a b s) (ap (λ (x : State). x.vectors) e ∙ third_root high low a b c s)
