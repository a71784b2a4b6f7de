-- The instruction table: what selects each row, its name, its operands, and its instruction.
-- Sources: Nintendo's RSP Programmer's Guide; the N64brew Wiki's page "Reality Signal Processor/CPU Core".
pub mod BitFields
pub mod Operands
pub mod Fields
pub mod Rows
pub mod ScalarRows
pub mod VectorRows
pub mod Words
pub mod Choices
pub mod Entries
pub use BitFields.{BitField, value_at, at_bit_field, FitsBitField, with_fields, FitBitFields, whole, capped, stepped}
pub use Operands.{Operand, ByteElements, all_bytes, half_bytes, byte_bits, bit_fields, is_scale, is_row_operand, scalar, shift_amount, signed, unsigned, jump_target, branch_target, scalar_memory, vector_memory, sp_register, control_register, vector, vector_byte, vector_element, vector_lane, vector_operands}
pub use Fields.{register_fields, register_values, shift_by_fields, shift_by_values, scalar_memory_fields, scalar_memory_values, vector_fields, vector_values, vector_memory_fields, vector_memory_values, vector_memory_in, IsVectorFields}
pub use Rows.{Selector, selector, opcode, special, regimm, cop0, cop2, computing, lwc2, lwc2_half, swc2, swc2_half, Row, row, none, one, two, three, four, of_registers, of_shift_by, of_scalar_memory, of_vectors, of_vector_memory, fits, row_bit_fields, fields, meaning_of}
pub use ScalarRows.{shift_selector, shift_row, shift_by_selector, shift_by_row, jump_register_row, jump_link_register_row, break_row, register_selector, register_row, branch_sign_selector, branch_sign_row, jump_selector, jump_row, branch_equal_selector, branch_equal_row, immediate_selector, immediate_operand, immediate_row, load_upper_row, load_selector, load_row, store_selector, store_row, move_sp_selector, move_sp_row, shift_ops, shift_by_ops, register_ops, jump_ops, branch_equal_ops, immediate_ops, load_ops, store_ops, special_rows, regimm_rows, opcode_rows, cop0_rows}
pub use VectorRows.{control_of, control_number, move_vector_selector, move_vector_row, move_control_selector, move_control_row, multiply_selector, multiply_row, round_selector, round_row, mpeg_selector, mpeg_row, read_accumulator_row, vector_add_selector, vector_add_row, vector_select_selector, vector_select_row, vector_clip_selector, vector_clip_row, vector_merge_row, vector_logic_selector, vector_logic_row, divide_selector, divide_row, idle_selector, idle_row, vector_load_selector, vector_load_scale, vector_load_operand, vector_load_row, vector_store_selector, vector_store_scale, vector_store_operand, vector_store_row, multiply_ops, round_ops, mpeg_ops, vector_add_ops, vector_select_ops, vector_clip_ops, vector_logic_ops, divide_ops, idle_ops, vector_load_ops, vector_store_ops, cop2_rows, computing_rows, lwc2_rows, swc2_rows}
pub use Words.{rows, word_from, row_and_values, IsInstruction, word_of}
unfoldable pub use Words.{row_of, inst_of, canonical_of}
pub use Choices.{pick, pick_by_operation}
pub use Entries.{Entry, entry_of, entry}
