-- The instructions for MPEG coefficients: VRNDP and VRNDN round the accumulator by its sign, VMULQ and VMACQ are
-- multiplies.
-- Sources: none. Neither Nintendo's RSP Programmer's Guide nor the N64brew Wiki settles what these four do, so their
-- rules are our choice (conformance/README.md, "What they can't show").
use Rattle.std.specs.Prelude.{ℕ, ℤ, pos, negsuc, ◌*◌, ◌/◌, ◌+ℤ◌, ◌*ℤ◌, Bool, not, List, slice_index, nat_eq, int_lt, if◌then◌else◌}
use Rattle.rsp_lanes.specs.Lanes.{each_lane}
use Rattle.rsp_numbers.specs.Numbers.{s16, s48, number, low, floor_div, modulo, sixteen_bits, clamp16}
use Rattle.rsp_acc.specs.Parts.{clamp_of}
use Rattle.rsp_acc.specs.declared.parts.Clamp.TheVariants.{Signed}
use Rattle.rsp_multiply.specs.declared.op.RoundOp.{RoundOp}
use Rattle.rsp_multiply.specs.declared.op.RoundOp.TheVariants.{Vrndp, Vrndn}
use Rattle.rsp_multiply.specs.declared.op.MpegOp.{MpegOp}
use Rattle.rsp_multiply.specs.declared.op.MpegOp.TheVariants.{Vmulq, Vmacq}

-- whether VRNDP or VRNDN adds to the accumulator x: VRNDP if x is 0 or more, VRNDN if x is negative
abbrev pub rounding_adds : RoundOp → ℤ → Bool
rounding_adds Vrndp x = not (int_lt x (pos 0))
rounding_adds Vrndn x = int_lt x (pos 0)

-- what it adds: the lane b of the selected vt as a signed value, times 65536 if the number of vs is odd
abbrev pub rounding : Bool → ℕ → ℤ
rounding odd b = if odd then s16 b *ℤ pos 65536 else s16 b

-- the accumulator x after VRNDP or VRNDN on the lane b
abbrev pub accumulator_after_rounding : RoundOp → Bool → ℤ → ℕ → ℤ
accumulator_after_rounding op odd x b = if rounding_adds op x then s48 (x +ℤ rounding odd b) else x

-- VMULQ's p: the product of the lanes as signed values, plus 31 if that is negative
abbrev pub mpeg_product : ℕ → ℕ → ℤ
mpeg_product a b =
    let p = s16 a *ℤ s16 b in
    if int_lt p (pos 0) then p +ℤ pos 31 else p

-- whether bit 5 of a number is set, a negative one in two's complement
abbrev pub has_bit_5 : ℤ → Bool
has_bit_5 p = nat_eq (modulo (floor_div p 32) 2) 1

-- what VMACQ adds to p: 0 if its bit 5 is set, else 32 for a negative p, and -32 for a p of 32 or more
abbrev pub vmacq_step : ℤ → ℤ
vmacq_step p =
    if has_bit_5 p then pos 0
    else if int_lt p (pos 0) then pos 32
    else if int_lt p (pos 32) then pos 0
    else negsuc 31

-- the accumulator x after VMULQ or VMACQ on the lanes a and b: p times 65536; VMACQ takes p from the accumulator, and
-- keeps its low sixteen bits
abbrev pub accumulator_after_mpeg : MpegOp → ℤ → ℕ → ℕ → ℤ
accumulator_after_mpeg Vmulq x a b = mpeg_product a b *ℤ pos 65536
accumulator_after_mpeg Vmacq x a b = let p = floor_div x 65536 in (p +ℤ vmacq_step p) *ℤ pos 65536 +ℤ pos (low x)

-- the result of VMULQ or VMACQ: half of p, rounded down, clamped to -32768 .. 32767, with its low four bits cleared
abbrev pub mpeg_result : ℤ → ℕ
mpeg_result p = sixteen_bits (clamp16 (floor_div p 2)) / 16 * 16

-- the eight accumulators after VRNDP or VRNDN on the register b, from those before
unfoldable pub accumulators_after_rounding : RoundOp → Bool → List ℕ → List ℤ → List ℤ
accumulators_after_rounding op odd b xs = each_lane (λ i. accumulator_after_rounding op odd (number xs i) (slice_index b i))

-- the result of VRNDP or VRNDN: the signed clamps of the accumulators after it
unfoldable pub rounding_results : List ℤ → List ℕ
rounding_results xs = each_lane (λ i. clamp_of Signed (number xs i))

-- the eight accumulators after VMULQ or VMACQ on the registers a and b, from those before
unfoldable pub accumulators_after_mpeg : MpegOp → List ℕ → List ℕ → List ℤ → List ℤ
accumulators_after_mpeg op a b xs = each_lane (λ i. accumulator_after_mpeg op (number xs i) (slice_index a i) (slice_index b i))

-- the result of VMULQ or VMACQ, from the accumulators after it: p is an accumulator without its low sixteen bits
unfoldable pub mpeg_results : List ℤ → List ℕ
mpeg_results xs = each_lane (λ i. mpeg_result (floor_div (number xs i) 65536))
