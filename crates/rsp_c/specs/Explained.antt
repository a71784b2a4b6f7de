-- The operand for which a text is refused, as the header has it.
use Rattle.std.specs.Prelude.{ℕ, Option, Some, None, pos}
use Rattle.rsp_decode.specs.Table.{Operand, scalar, shift_amount, signed, unsigned, jump_target, branch_target, scalar_memory, vector_memory, sp_register, control_register, vector, vector_byte, vector_element, vector_lane}
use Rattle.rsp_asm.specs.declared.explanation.Bounds.{Bounds}
use Rattle.rsp_asm.specs.declared.explanation.Expected.{Expected}
use Rattle.rsp_asm.specs.declared.explanation.Expected.TheVariants.{Kind, Number, Nothing}
use Rattle.rsp_asm.specs.declared.explanation.FaultyOperand.{FaultyOperand}
use Rattle.rsp_asm.specs.Explanations.{bounds}
use Rattle.rsp_c.specs.declared.explain.RspOperand.{RspOperand}

abbrev pub operand_number : Operand → ℕ
operand_number (scalar low) = 2
operand_number shift_amount = 3
operand_number signed = 4
operand_number unsigned = 4
operand_number jump_target = 5
operand_number branch_target = 6
operand_number scalar_memory = 7
operand_number (vector_memory scale) = 8
operand_number sp_register = 9
operand_number control_register = 10
operand_number (vector low) = 11
operand_number (vector_byte low elements) = 12
operand_number vector_element = 13
operand_number vector_lane = 14

-- the number of what a statement takes
abbrev pub kind_number : Expected → ℕ
kind_number Nothing = 0
kind_number Number = 1
kind_number (Kind k) = operand_number k

abbrev pub ranged_operand : ℕ → ℕ → Option Bounds → RspOperand
ranged_operand n kind None = record { number = n; kind = kind; low = pos 0; high = pos 0; step = 0 }
ranged_operand n kind (Some b) = record { number = n; kind = kind; low = b.low; high = b.high; step = b.step }

abbrev pub c_operand : Option FaultyOperand → RspOperand
c_operand None = record { number = 0; kind = 0; low = pos 0; high = pos 0; step = 0 }
c_operand (Some found) = ranged_operand found.number (kind_number found.expected) (bounds found.expected)
