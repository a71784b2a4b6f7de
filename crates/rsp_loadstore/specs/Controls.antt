-- Moves between a scalar register and a control register of the vector unit.
-- Sources: Nintendo's RSP Programmer's Guide, chapter on vector unit instructions; the N64brew Wiki's page "Reality Signal Processor/CPU Core".
use Rattle.std.specs.Prelude.{ℕ, ◌/◌, ◌%◌, Bool, List}
use Rattle.std.specs.Int.{w16}
use Rattle.std.specs.Simd.Lanes.{mask_l}
use Rattle.rsp_numbers.specs.Numbers.{bit_set, sign_extended}
use Rattle.rsp_lanes.specs.Lanes.{each_lane}
use Rattle.rsp_lanes.specs.declared.flags.Flags.{Flags}
use Rattle.rsp_lanes.specs.Flags.{vco, vcc}
use Rattle.rsp_decode.specs.declared.inst.Inst.{Inst}
use Rattle.rsp_decode.specs.declared.inst.Inst.TheVariants.{MoveControl}
use Rattle.rsp_decode.specs.declared.scalar.MoveOp.TheVariants.{From, To}
use Rattle.rsp_decode.specs.declared.vector.Control.{Control}
use Rattle.rsp_decode.specs.declared.vector.Control.TheVariants.{Vco, Vcc, Vce}

-- the flags of lanes 0 to 7 from bits 0 to 7 of a number
abbrev pub flags_of_bits : ℕ → List Bool
flags_of_bits n = each_lane (λ i. bit_set n i)

-- a control register in 32 bits: VCO and VCC are sign-extended, VCE is zero-extended
abbrev pub control_word : Control → Flags → ℕ
control_word Vco f = sign_extended w16 (vco f)
control_word Vcc f = sign_extended w16 (vcc f)
control_word Vce f = mask_l f.extra

-- the flags after a write of a control register
abbrev pub with_control : Control → ℕ → Flags → Flags
with_control Vco value f = record f { carry = flags_of_bits (value % 256); differ = flags_of_bits (value / 256 % 256) }
with_control Vcc value f = record f { compare = flags_of_bits (value % 256); clip = flags_of_bits (value / 256 % 256) }
with_control Vce value f = record f { extra = flags_of_bits (value % 256) }

-- what CFC2 reads; 0 for another instruction
unfoldable pub control_value : Inst → Flags → ℕ
control_value (MoveControl From rt control) f = control_word control f
control_value _ f = 0

-- the flags after CTC2 of a value; another instruction changes none
unfoldable pub flags_after_move : Inst → ℕ → Flags → Flags
flags_after_move (MoveControl To rt control) value f = with_control control value f
flags_after_move _ value f = f
