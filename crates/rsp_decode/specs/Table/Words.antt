-- Words as instructions, and instructions as words.
use Rattle.std.specs.Prelude.{ℕ, List, [], ◌∷◌, ◌++◌, find, Option, option_map}
use Rattle.rsp_decode.specs.declared.inst.Inst.{Inst}
use Rattle.rsp_decode.specs.declared.inst.Inst.TheVariants.{BranchEqual, BranchSign, Break, Idle, Immediate, Jump, JumpLinkRegister, JumpRegister, Divide, Load, LoadUpper, MoveControl, MoveSp, MoveVector, Register, Shift, ShiftBy, Store, Multiply, Round, MpegMultiply, ReadAccumulator, VectorAdd, VectorSelect, VectorClip, VectorMerge, VectorLogic, VectorLoad, VectorStore}
use Rattle.rsp_decode.specs.Table.BitFields.{with_fields, FitBitFields}
use Rattle.rsp_decode.specs.Table.Fields.{register_values, shift_by_values, scalar_memory_values, vector_values, vector_memory_values}
use Rattle.rsp_decode.specs.Table.Rows.{Row, fits, fields, row_bit_fields, meaning_of}
use Rattle.rsp_decode.specs.Table.ScalarRows.{shift_row, shift_by_row, jump_register_row, jump_link_register_row, break_row, register_row, branch_sign_row, jump_row, branch_equal_row, immediate_row, load_upper_row, load_row, store_row, move_sp_row, special_rows, regimm_rows, opcode_rows, cop0_rows}
use Rattle.rsp_decode.specs.Table.VectorRows.{control_number, move_vector_row, move_control_row, multiply_row, round_row, mpeg_row, read_accumulator_row, vector_add_row, vector_select_row, vector_clip_row, vector_merge_row, vector_logic_row, divide_row, idle_row, vector_load_row, vector_store_row, cop2_rows, computing_rows, lwc2_rows, swc2_rows}

-- the instruction table
abbrev pub rows : List Row
rows = special_rows ++ regimm_rows ++ opcode_rows ++ cop0_rows ++ cop2_rows ++ computing_rows ++ lwc2_rows ++ swc2_rows

-- the row of a word
unfoldable pub row_of : ℕ → Option Row
row_of w = find (fits w) rows

-- the instruction of a word, or None for a reserved one
unfoldable pub inst_of : ℕ → Option Inst
inst_of w = option_map (λ (r : Row). meaning_of r w) (row_of w)

-- the word of a row with these fields: the bits that select the row, the fields, and 0 elsewhere
abbrev pub word_from : Row → List ℕ → ℕ
word_from r values = with_fields r.value (row_bit_fields r) values

-- the word with 0 in each bit that neither selects its row nor is in a field, or None for a reserved one
unfoldable pub canonical_of : ℕ → Option ℕ
canonical_of w = option_map (λ (r : Row). word_from r (fields r w)) (row_of w)

-- the row of an instruction, and its fields in the order of the row's text
abbrev pub row_and_values : Inst → Row × List ℕ
row_and_values (Shift r rd rt amount) = (shift_row r, rd ∷ rt ∷ amount ∷ [])
row_and_values (ShiftBy r fields) = (shift_by_row r, shift_by_values fields)
row_and_values (JumpRegister rs) = (jump_register_row, rs ∷ [])
row_and_values (JumpLinkRegister rd rs) = (jump_link_register_row, rd ∷ rs ∷ [])
row_and_values Break = (break_row, [])
row_and_values (Register r fields) = (register_row r, register_values fields)
row_and_values (BranchSign r rs offset) = (branch_sign_row r, rs ∷ offset ∷ [])
row_and_values (Jump r target) = (jump_row r, target ∷ [])
row_and_values (BranchEqual r rs rt offset) = (branch_equal_row r, rs ∷ rt ∷ offset ∷ [])
row_and_values (Immediate r rt rs imm) = (immediate_row r, rt ∷ rs ∷ imm ∷ [])
row_and_values (LoadUpper rt imm) = (load_upper_row, rt ∷ imm ∷ [])
row_and_values (Load r fields) = (load_row r, scalar_memory_values fields)
row_and_values (Store r fields) = (store_row r, scalar_memory_values fields)
row_and_values (MoveSp r rt register) = (move_sp_row r, rt ∷ register ∷ [])
row_and_values (MoveVector r rt vector' element) = (move_vector_row r, rt ∷ vector' ∷ element ∷ [])
row_and_values (MoveControl r rt control) = (move_control_row r, rt ∷ control_number control ∷ [])
row_and_values (Multiply r fields) = (multiply_row r, vector_values fields)
row_and_values (Round r fields) = (round_row r, vector_values fields)
row_and_values (MpegMultiply r fields) = (mpeg_row r, vector_values fields)
row_and_values (ReadAccumulator fields) = (read_accumulator_row, vector_values fields)
row_and_values (VectorAdd r fields) = (vector_add_row r, vector_values fields)
row_and_values (VectorSelect r fields) = (vector_select_row r, vector_values fields)
row_and_values (VectorClip r fields) = (vector_clip_row r, vector_values fields)
row_and_values (VectorMerge fields) = (vector_merge_row, vector_values fields)
row_and_values (VectorLogic r fields) = (vector_logic_row r, vector_values fields)
row_and_values (Divide r vd lane vt element) = (divide_row r, vd ∷ lane ∷ vt ∷ element ∷ [])
row_and_values (Idle r) = (idle_row r, [])
row_and_values (VectorLoad r fields) = (vector_load_row r, vector_memory_values fields)
row_and_values (VectorStore r fields) = (vector_store_row r, vector_memory_values fields)

-- the instruction of some word
abbrev pub IsInstruction : Inst → Type 0
IsInstruction i = FitBitFields (row_bit_fields (row_and_values i).0) (row_and_values i).1

-- its canonical word
abbrev pub word_of : Inst → ℕ
word_of i = word_from (row_and_values i).0 (row_and_values i).1
