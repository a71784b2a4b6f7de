-- The twelve multiplies, each by its addend, whether it adds to the accumulator, and its clamp; and VSAR.
-- Sources: Nintendo's RSP Programmer's Guide, chapter on vector unit instructions; the N64brew Wiki's page "Reality Signal Processor/CPU Core".
use Rattle.std.specs.Prelude.{ℕ, ℤ, pos, ◌*◌, ◌/◌, ◌+ℤ◌, ◌*ℤ◌, Bool, true, false, List, slice_index, nat_eq, if◌then◌else◌}
use Rattle.rsp_lanes.specs.Lanes.{each_lane}
use Rattle.rsp_numbers.specs.Numbers.{s16, s48, number, high, middle, low}
use Rattle.rsp_acc.specs.Parts.{clamp_of}
use Rattle.rsp_acc.specs.declared.parts.Clamp.{Clamp}
use Rattle.rsp_acc.specs.declared.parts.Clamp.TheVariants.{Signed, Unsigned, LowKind}
use Rattle.rsp_multiply.specs.declared.op.MultiplyOp.{MultiplyOp}
use Rattle.rsp_multiply.specs.declared.op.MultiplyOp.TheVariants.{Vmulf, Vmulu, Vmudl, Vmudm, Vmudn, Vmudh, Vmacf, Vmacu, Vmadl, Vmadm, Vmadn, Vmadh}

-- the rule of a multiply: its addend, from a lane a of vs and a lane b of the selected vt; whether that is added to the
-- accumulator or replaces it; and the clamp of the accumulator that is the result
pub record MultiplyRule : Type 0 where
  pub addend : ℕ → ℕ → ℤ
  pub adds : Bool
  pub clamp : Clamp

-- twice the product of the lanes as signed values
abbrev pub fraction : ℕ → ℕ → ℤ
fraction a b = pos 2 *ℤ (s16 a *ℤ s16 b)

-- the same plus 32768
abbrev pub rounded : ℕ → ℕ → ℤ
rounded a b = fraction a b +ℤ pos 32768

-- the product of the lanes as unsigned values, divided by 65536 and rounded down
abbrev pub unsigned_over_65536 : ℕ → ℕ → ℤ
unsigned_over_65536 a b = pos (a * b / 65536)

-- the product of a as a signed value and b as an unsigned one
abbrev pub signed_by_unsigned : ℕ → ℕ → ℤ
signed_by_unsigned a b = s16 a *ℤ pos b

-- the product of a as an unsigned value and b as a signed one
abbrev pub unsigned_by_signed : ℕ → ℕ → ℤ
unsigned_by_signed a b = pos a *ℤ s16 b

-- the product of the lanes as signed values, times 65536
abbrev pub signed_times_65536 : ℕ → ℕ → ℤ
signed_times_65536 a b = (s16 a *ℤ s16 b) *ℤ pos 65536

-- the rule of each multiply
abbrev pub multiply_rule : MultiplyOp → MultiplyRule
multiply_rule Vmulf = record { addend = rounded; adds = false; clamp = Signed }
multiply_rule Vmulu = record { addend = rounded; adds = false; clamp = Unsigned }
multiply_rule Vmudl = record { addend = unsigned_over_65536; adds = false; clamp = LowKind }
multiply_rule Vmudm = record { addend = signed_by_unsigned; adds = false; clamp = Signed }
multiply_rule Vmudn = record { addend = unsigned_by_signed; adds = false; clamp = LowKind }
multiply_rule Vmudh = record { addend = signed_times_65536; adds = false; clamp = Signed }
multiply_rule Vmacf = record { addend = fraction; adds = true; clamp = Signed }
multiply_rule Vmacu = record { addend = fraction; adds = true; clamp = Unsigned }
multiply_rule Vmadl = record { addend = unsigned_over_65536; adds = true; clamp = LowKind }
multiply_rule Vmadm = record { addend = signed_by_unsigned; adds = true; clamp = Signed }
multiply_rule Vmadn = record { addend = unsigned_by_signed; adds = true; clamp = LowKind }
multiply_rule Vmadh = record { addend = signed_times_65536; adds = true; clamp = Signed }

-- the accumulator x after a multiply of the lanes a and b
abbrev pub accumulator_after : MultiplyOp → ℤ → ℕ → ℕ → ℤ
accumulator_after op x a b = s48 (if (multiply_rule op).adds then x +ℤ (multiply_rule op).addend a b else (multiply_rule op).addend a b)

-- VSAR's result: the high sixteen bits of the accumulator x for e 8, the middle ones for e 9, the low ones for e 10,
-- else 0
abbrev pub sar_lane : ℕ → ℤ → ℕ
sar_lane e x = if nat_eq e 8 then high x else if nat_eq e 9 then middle x else if nat_eq e 10 then low x else 0

-- the eight accumulators after a multiply of the registers a and b, from those before
unfoldable pub accumulators_after : MultiplyOp → List ℕ → List ℕ → List ℤ → List ℤ
accumulators_after op a b xs = each_lane (λ i. accumulator_after op (number xs i) (slice_index a i) (slice_index b i))

-- the result of a multiply, from the accumulators after it
unfoldable pub multiply_results : MultiplyOp → List ℤ → List ℕ
multiply_results op xs = each_lane (λ i. clamp_of (multiply_rule op).clamp (number xs i))

-- the result of VSAR, from the eight accumulators
unfoldable pub sar_results : ℕ → List ℤ → List ℕ
sar_results e xs = each_lane (λ i. sar_lane e (number xs i))
