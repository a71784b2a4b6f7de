-- The add instructions, each by its rule for one lane. a is a lane of vs and b a lane of the selected vt, as unsigned
-- values; s16 gives the signed ones. A flag that a rule doesn't name is kept.
-- Sources: Nintendo's RSP Programmer's Guide, chapter on vector unit instructions; the N64brew Wiki's page "Reality Signal Processor/CPU Core".
use Rattle.std.specs.Prelude.{ℕ, ℤ, pos, negsuc, ◌+◌, ◌%◌, ◌+ℤ◌, ◌-ℤ◌, false, not, ◌&&◌, int_lt, nat_lt, nat_eq, if◌then◌else◌}
use Rattle.std.specs.Ordering.{int_eq}
use Rattle.rsp_lanes.specs.Lanes.{bit}
use Rattle.rsp_numbers.specs.Numbers.{s16, sixteen_bits, negated, clamp16}
use Rattle.rsp_lanes.specs.Flags.{LaneFlags, vco_cleared}
use Rattle.rsp_lanes.specs.Outcome.{Outcome, Rule, plain}
use Rattle.rsp_compare.specs.declared.adds.AddOp.{AddOp}
use Rattle.rsp_compare.specs.declared.adds.AddOp.TheVariants.{Vadd, Vsub, Vabs, Vaddc, Vsubc}

-- n is the low accumulator, n clamped the result; VCO is cleared
abbrev pub clamped : ℤ → LaneFlags → Outcome
clamped n f = record { result = sixteen_bits (clamp16 n); low = sixteen_bits n; flags = vco_cleared f }

-- VADD: the sum of the signed values and carry
abbrev pub vadd : Rule
vadd a b f = clamped (s16 a +ℤ s16 b +ℤ pos (bit f.carry)) f

-- VSUB: the difference of the signed values, less carry
abbrev pub vsub : Rule
vsub a b f = clamped (s16 a -ℤ s16 b -ℤ pos (bit f.carry)) f

-- -b if a is negative, 0 if a is 0, b if a is positive
abbrev pub with_sign_of : ℕ → ℕ → ℕ
with_sign_of a b =
    if int_lt (s16 a) (pos 0) then negated b
    else if int_eq (s16 a) (pos 0) then 0
    else b

-- -b isn't a signed value of 16 bits if b is -32768: the low accumulator is 32768, and the result 32767
abbrev pub vabs : Rule
vabs a b f =
    if int_lt (s16 a) (pos 0) && int_eq (s16 b) (negsuc 32767) then record { result = 32767; low = 32768; flags = f }
    else plain (with_sign_of a b) f

-- VADDC: the sum of the unsigned values, modulo 65536; carry is set if it is above 65535, and differ is cleared
abbrev pub vaddc : Rule
vaddc a b f = plain ((a + b) % 65536) (record f { carry = nat_lt 65535 (a + b); differ = false })

-- VSUBC: the difference of the unsigned values, modulo 65536; carry is set if a is below b, and differ if they aren't
-- equal
abbrev pub vsubc : Rule
vsubc a b f = plain (sixteen_bits (pos a -ℤ pos b)) (record f { carry = nat_lt a b; differ = not (nat_eq a b) })

abbrev pub add_rule : AddOp → Rule
add_rule Vadd = vadd
add_rule Vsub = vsub
add_rule Vabs = vabs
add_rule Vaddc = vaddc
add_rule Vsubc = vsubc
