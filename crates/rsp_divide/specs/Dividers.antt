-- The divider: `input` is DIV_IN, `output` is DIV_OUT, and `loaded` is the flag that DIV_IN is loaded.
-- Sources: Nintendo's RSP Programmer's Guide, chapter on vector unit instructions; the N64brew Wiki's page "Reality Signal Processor/CPU Core".
use Rattle.std.specs.Prelude.{ℕ, ℤ, ◌+◌, ◌*◌, true, false, if◌then◌else◌}
use Rattle.rsp_numbers.specs.Numbers.{s16, s32, sixteen_bits, upper_bits}
use Rattle.rsp_divide.specs.declared.divider.Divider.{Divider}

-- the divider at the start
abbrev pub no_divider : Divider
no_divider = record { input = 0; output = 0; loaded = false }

-- what a divide instruction writes to its lane, and the divider after it
pub record Division : Type 0 where
  pub lane : ℕ
  pub divider : Divider

-- the low half of a quotient is written to the lane, the high half to DIV_OUT; the loaded flag is cleared
abbrev pub divided : Divider → ℤ → Division
divided d q = record {
  lane = sixteen_bits q;
  divider = record { input = d.input; output = upper_bits q; loaded = false };
}

-- DIV_OUT is written to the lane, and the source to DIV_IN; the loaded flag is set
abbrev pub half_exchange : Divider → ℕ → Division
half_exchange d source = record { lane = d.output; divider = record { input = source; output = d.output; loaded = true } }

-- a lane is written; the divider is kept
abbrev pub lane_only : Divider → ℕ → Division
lane_only d lane = record { lane = lane; divider = d }

-- the operand of VRCPL and VRSQL, as a signed value: 32 bits if the loaded flag is set, else 16
abbrev pub operand : Divider → ℕ → ℤ
operand d source = if d.loaded then s32 (d.input * 65536 + source) else s16 source
