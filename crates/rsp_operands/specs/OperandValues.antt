-- Scaffolding of the contracts: what an operand means, as the code has it. What its text means is in Operands of rsp_syntax.
use Rattle.std.specs.Prelude.{[], ◌∷◌, option_map}
use Rattle.rsp_syntax.specs.Capping.{expression, capped_expression}
use Rattle.rsp_syntax.specs.Statement as statement
use Rattle.rsp_syntax.specs.Statement.{one_register, pair, ranged_value}
use Rattle.rsp_operands.specs.declared.operand_value.OperandValue.{OperandValue}
use Rattle.rsp_operands.specs.declared.operand_value.OperandValue.TheVariants.{Register, Pair, Value, Memory}

abbrev pub reading : OperandValue → statement.OperandValue
reading (Register n) = one_register n
reading (Pair n e) = pair n e
reading (Value range e) = ranged_value range [] (expression e)
reading (Memory range e b) = ranged_value range (b ∷ []) (expression e)

-- the meaning of an operand with its number clamped as the code does
abbrev pub capped_value : statement.OperandValue → statement.OperandValue
capped_value r = record { value = option_map (λ v. (v.0, capped_expression v.1)) r.value; registers = r.registers }
