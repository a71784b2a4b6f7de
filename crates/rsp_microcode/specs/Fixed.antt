-- Fixed-point numbers: a high register with the whole parts, and a low one with the fractions.
use Rattle.std.specs.Prelude.{ℕ, ℤ, pos, negsuc, ◌≡◌, ◌+◌, ◌*◌, ◌<◌, ◌+ℤ◌, ◌*ℤ◌, ◌≤ℤ◌, List, slice_index}
use Rattle.std.specs.Int.{int_min, int_max}
use Rattle.rsp_numbers.specs.Numbers.{s16, s32, s48, sixteen_bits, clamp16, floor_div}
use Rattle.rsp_lanes.specs.Lanes.{each_lane, selected, source_lane, IsVector}
use Rattle.rsp_lanes.specs.Outcome.{results_of, flags_after}
use Rattle.rsp_lanes.specs.declared.flags.Flags.{Flags}
use Rattle.rsp_acc.specs.Parts.{clamp_of}
use Rattle.rsp_acc.specs.declared.parts.Clamp.TheVariants.{Signed, LowKind}
use Rattle.rsp_compare.specs.Adds.{vadd, vaddc}
use Rattle.rsp_multiply.specs.MultiplyRules.{unsigned_over_65536, signed_by_unsigned, unsigned_by_signed, signed_times_65536}

-- lane i of a high and a low register, as one signed number of 32 bits
abbrev pub fixed : List ℕ → List ℕ → ℕ → ℤ
fixed high low i = s32 (slice_index high i * 65536 + slice_index low i)

-- z clamped to 32 signed bits
abbrev pub limited : ℤ → ℤ
limited z = int_max (negsuc 2147483647) (int_min (pos 2147483647) z)

-- the product of numbers with sixteen bits of fraction: the sixteen lowest bits of the whole product are dropped, so it is
-- rounded down, and then clamped
abbrev pub fixed_product : ℤ → ℤ → ℤ
fixed_product a b = limited (floor_div (a *ℤ b) 65536)

-- the sum of such numbers as VADDC makes it of the low halves, and VADD of the high ones with the carry: the high half is clamped
abbrev pub fixed_added : ℤ → ℤ → ℤ
fixed_added x y = clamp16 (floor_div (x +ℤ y) 65536) *ℤ pos 65536 +ℤ pos (sixteen_bits (x +ℤ y))

-- what a last `vmadn $vD, $v0, $v0` adds: nothing, if $v0 is 0
abbrev pub last : List ℕ → ℕ → ℤ
last z i = unsigned_by_signed (slice_index z i) (slice_index (selected z 0) i)

-- the number is 65536 times its high half, as a signed number, plus its low half
abbrev pub FixedParts : Type 0
FixedParts = (high low : ℕ) → high < 65536 → low < 65536 → s32 (high * 65536 + low) ≡ s16 high *ℤ pos 65536 +ℤ pos low

-- so its high half is the number over 65536, rounded down
abbrev pub FixedHigh : Type 0
FixedHigh = (high low : ℕ) → high < 65536 → low < 65536 → floor_div (s32 (high * 65536 + low)) 65536 ≡ s16 high

-- it has 32 bits
abbrev pub FixedRange : Type 0
FixedRange = (high low : List ℕ) (i : ℕ) → IsVector high → IsVector low
    → (negsuc 2147483647 ≤ℤ fixed high low i) × (fixed high low i ≤ℤ pos 2147483647)

-- A sum whose high half is clamped by VMUDH or VMADH, and whose low half by a last `vmadn $vD, $v0, $v0`: the two are one number,
-- which is the sum modulo 2^48, clamped to 32 bits.
abbrev pub FixedSum : Type 0
FixedSum = (sum : ℕ → ℤ) (zero high low : List ℕ) → zero ≡ each_lane (λ _. 0)
    → high ≡ each_lane (λ i. clamp_of Signed (s48 (sum i)))
    → low ≡ each_lane (λ i. clamp_of LowKind (s48 (sum i +ℤ last zero i)))
    → (i : ℕ) → i < 8 → fixed high low i ≡ limited (s48 (sum i))

-- The sum z after a product, high half a and low half b times c and d with an element: `vmadl b, d[e]`, `vmadm a, d[e]`, `vmadn b, c[e]`
-- and `vmadh a, c[e]`.
abbrev pub plus_product : ℤ → List ℕ → List ℕ → List ℕ → List ℕ → ℕ → ℕ → ℤ
plus_product z a b c d e i =
    (((z +ℤ unsigned_over_65536 (slice_index b i) (slice_index (selected d e) i)) +ℤ signed_by_unsigned (slice_index a i) (slice_index (selected d e) i))
    +ℤ unsigned_by_signed (slice_index b i) (slice_index (selected c e) i)) +ℤ signed_times_65536 (slice_index a i) (slice_index (selected c e) i)

-- These four add the product, rounded down.
abbrev pub FixedPlusProduct : Type 0
FixedPlusProduct = (z : ℤ) (a b c d : List ℕ) (e i : ℕ) → IsVector a → IsVector b → IsVector c → IsVector d → i < 8
    → plus_product z a b c d e i ≡ z +ℤ floor_div (fixed a b i *ℤ fixed c d (source_lane e i)) 65536

-- One product alone, whose first multiply is `vmudl`, never wraps.
abbrev pub product_sum : List ℕ → List ℕ → List ℕ → List ℕ → ℕ → ℤ
product_sum a b c d i = plus_product (pos 0) a b c d 0 i

abbrev pub FixedProduct : Type 0
FixedProduct = (a b c d zero high low : List ℕ) → IsVector a → IsVector b → IsVector c → IsVector d → zero ≡ each_lane (λ _. 0)
    → high ≡ each_lane (λ i. clamp_of Signed (s48 (product_sum a b c d i)))
    → low ≡ each_lane (λ i. clamp_of LowKind (s48 (product_sum a b c d i +ℤ last zero i)))
    → (i : ℕ) → i < 8 → fixed high low i ≡ fixed_product (fixed a b i) (fixed c d i)

-- The sum z after `vmadn low, x[e]` and `vmadh high, x[e]`.
abbrev pub plus_times : ℤ → List ℕ → List ℕ → List ℕ → ℕ → ℕ → ℤ
plus_times z high low x e i =
    (z +ℤ unsigned_by_signed (slice_index low i) (slice_index (selected x e) i)) +ℤ signed_times_65536 (slice_index high i) (slice_index (selected x e) i)

-- These two add the number in high and low, times a whole number.
abbrev pub FixedTimes : Type 0
FixedTimes = (z : ℤ) (high low x : List ℕ) (e i : ℕ) → IsVector high → IsVector low → i < 8
    → plus_times z high low x e i ≡ z +ℤ fixed high low i *ℤ s16 (slice_index x (source_lane e i))

-- `vaddc low, b, d[e]` and then `vadd high, a, c[e]` leave the sum of the number in a and b and the one in c and d.
abbrev pub FixedAdds : Type 0
FixedAdds = (a b c d high low : List ℕ) (e : ℕ) (f : Flags) → IsVector a → IsVector b → IsVector c → IsVector d
    → high ≡ results_of vadd a (selected c e) (flags_after vaddc b (selected d e) f)
    → low ≡ results_of vaddc b (selected d e) f
    → (i : ℕ) → i < 8 → fixed high low i ≡ fixed_added (fixed a b i) (fixed c d (source_lane e i))

-- It is the sum, if that has 32 bits.
abbrev pub FixedAddsInRange : Type 0
FixedAddsInRange = (x y : ℤ) → negsuc 2147483647 ≤ℤ (x +ℤ y) → (x +ℤ y) ≤ℤ pos 2147483647 → fixed_added x y ≡ x +ℤ y
