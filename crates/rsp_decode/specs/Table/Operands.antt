-- The kinds of operand, which are the variants of one enum, and the fields of each. A number is the lowest bit of the
-- register's field; of vector memory it is the scale of the offset.
use Rattle.std.specs.Prelude.{ℕ, nat_le, ◌==◌, Bool, true, ◌||◌, List, [], ◌∷◌}
use Rattle.rsp_decode.specs.Table.BitFields.{BitField, whole, capped, stepped}
pub use Rattle.rsp_decode.specs.declared.rows.ByteElements.{ByteElements}
pub use Rattle.rsp_decode.specs.declared.rows.ByteElements.TheVariants.{All as all_bytes, Halves as half_bytes}
pub use Rattle.rsp_decode.specs.declared.rows.Operand.{Operand}
pub use Rattle.rsp_decode.specs.declared.rows.Operand.TheVariants.{Scalar as scalar, ShiftAmount as shift_amount, Signed as signed, Unsigned as unsigned, JumpTarget as jump_target, BranchTarget as branch_target, ScalarMemory as scalar_memory, VectorMemory as vector_memory, SpRegister as sp_register, ControlRegister as control_register, Vector as vector, VectorByte as vector_byte, VectorElement as vector_element, VectorLane as vector_lane}

-- the field of a byte element: one of all sixteen, or 0 and 8 alone
abbrev pub byte_bits : ByteElements → BitField
byte_bits all_bytes = whole 7 4
byte_bits half_bytes = stepped 10 1 3

-- the fields of an operand, in the order of its text
abbrev pub bit_fields : Operand → List BitField
bit_fields (scalar low) = whole low 5 ∷ []
bit_fields shift_amount = whole 6 5 ∷ []
bit_fields signed = whole 0 16 ∷ []
bit_fields unsigned = whole 0 16 ∷ []
bit_fields jump_target = whole 0 10 ∷ []
bit_fields branch_target = whole 0 16 ∷ []
bit_fields scalar_memory = whole 0 16 ∷ whole 21 5 ∷ []
bit_fields (vector_memory scale) = whole 0 7 ∷ whole 21 5 ∷ []
bit_fields sp_register = whole 11 4 ∷ []
bit_fields control_register = capped 11 2 2 ∷ []
bit_fields (vector low) = whole low 5 ∷ []
bit_fields (vector_byte low elements) = whole low 5 ∷ byte_bits elements ∷ []
bit_fields vector_element = whole 16 5 ∷ whole 21 4 ∷ []
bit_fields vector_lane = whole 6 5 ∷ whole 11 3 ∷ []

-- the operands of an instruction that computes with two vectors: $vD, $vS, $vT[e]
abbrev pub vector_operands : List Operand
vector_operands = vector 6 ∷ vector 11 ∷ vector_element ∷ []

-- the scale of an offset is one of five
abbrev pub is_scale : ℕ → Bool
is_scale s = s == 1 || (s == 2 || (s == 4 || (s == 8 || s == 16)))

-- the numbers that operands have in the table: the field of a register is inside the word
abbrev pub is_row_operand : Operand → Bool
is_row_operand (scalar low) = nat_le low 27
is_row_operand (vector low) = nat_le low 27
is_row_operand (vector_byte low elements) = nat_le low 27
is_row_operand (vector_memory scale) = is_scale scale
is_row_operand _ = true
