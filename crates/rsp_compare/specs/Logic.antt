-- The logic instructions, each by its rule for one lane.
-- Sources: Nintendo's RSP Programmer's Guide, chapter on vector unit instructions; the N64brew Wiki's page "Reality Signal Processor/CPU Core".
use Rattle.std.specs.Prelude.{ℕ}
use Rattle.std.specs.Int.Bits.{bit_and, bit_or, bit_xor}
use Rattle.rsp_numbers.specs.Numbers.{complement}
use Rattle.rsp_lanes.specs.Outcome.{Rule, plain}
use Rattle.rsp_compare.specs.declared.logic.LogicOp.{LogicOp}
use Rattle.rsp_compare.specs.declared.logic.LogicOp.TheVariants.{Vand, Vnand, Vor, Vnor, Vxor, Vnxor}

-- the result, bit by bit; complement inverts all sixteen bits
abbrev pub bits_of : LogicOp → ℕ → ℕ → ℕ
bits_of Vand a b = bit_and a b
bits_of Vnand a b = complement (bit_and a b)
bits_of Vor a b = bit_or a b
bits_of Vnor a b = complement (bit_or a b)
bits_of Vxor a b = bit_xor a b
bits_of Vnxor a b = complement (bit_xor a b)

-- all flags are kept
abbrev pub logic_rule : LogicOp → Rule
logic_rule op a b f = plain (bits_of op a b) f
