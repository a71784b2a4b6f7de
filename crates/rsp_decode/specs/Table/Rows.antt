-- What a row of the instruction table is.
use Rattle.std.specs.Prelude.{ℕ, ◌+◌, ◌*◌, ◌^◌, ◌==◌, Bool, List, map, flat_map, slice_index, bit_and}
use Rattle.rsp_decode.specs.declared.inst.Inst.{Inst}
use Rattle.rsp_decode.specs.Table.BitFields.{BitField, value_at}
use Rattle.rsp_decode.specs.Table.Operands.{Operand, bit_fields}
use Rattle.rsp_decode.specs.declared.fields.RegisterFields.{RegisterFields}
use Rattle.rsp_decode.specs.declared.fields.ScalarMemoryFields.{ScalarMemoryFields}
use Rattle.rsp_decode.specs.declared.fields.VectorFields.{VectorFields}
use Rattle.rsp_decode.specs.declared.fields.VectorMemoryFields.{VectorMemoryFields}
use Rattle.rsp_decode.specs.Table.Fields.{register_fields, shift_by_fields, scalar_memory_fields, vector_fields, vector_memory_fields}

-- what selects a row, and its name
pub record Selector : Type 0 where
  pub mask : ℕ
  pub value : ℕ
  pub name : List ℕ

-- a selector of a mask, a value and a name
abbrev pub selector : ℕ → ℕ → List ℕ → Selector
selector mask value name = record { mask = mask; value = value; name = name }

-- by the opcode alone, bits 31 to 26
abbrev pub opcode : ℕ → List ℕ → Selector
opcode o = selector 0xfc000000 (o * 2 ^ 26)

-- opcode 0, by the function, bits 5 to 0
abbrev pub special : ℕ → List ℕ → Selector
special function = selector 0xfc00003f function

-- opcode 1, by rt, bits 20 to 16
abbrev pub regimm : ℕ → List ℕ → Selector
regimm rt = selector 0xfc1f0000 (1 * 2 ^ 26 + rt * 2 ^ 16)

-- opcode 16, by rs, bits 25 to 21
abbrev pub cop0 : ℕ → List ℕ → Selector
cop0 rs = selector 0xffe00000 (16 * 2 ^ 26 + rs * 2 ^ 21)

-- opcode 18 without bit 25, by rs
abbrev pub cop2 : ℕ → List ℕ → Selector
cop2 rs = selector 0xffe00000 (18 * 2 ^ 26 + rs * 2 ^ 21)

-- opcode 18 with bit 25, by the function
abbrev pub computing : ℕ → List ℕ → Selector
computing function = selector 0xfe00003f (18 * 2 ^ 26 + 2 ^ 25 + function)

-- opcode 50, by the operation, bits 15 to 11
abbrev pub lwc2 : ℕ → List ℕ → Selector
lwc2 operation = selector 0xfc00f800 (50 * 2 ^ 26 + operation * 2 ^ 11)

-- the same if the element is 0 or 8: bits 9 to 7 are 0
abbrev pub lwc2_half : ℕ → List ℕ → Selector
lwc2_half operation = selector 0xfc00fb80 (50 * 2 ^ 26 + operation * 2 ^ 11)

-- opcode 58, by the operation
abbrev pub swc2 : ℕ → List ℕ → Selector
swc2 operation = selector 0xfc00f800 (58 * 2 ^ 26 + operation * 2 ^ 11)

-- the same if the element is 0 or 8
abbrev pub swc2_half : ℕ → List ℕ → Selector
swc2_half operation = selector 0xfc00fb80 (58 * 2 ^ 26 + operation * 2 ^ 11)

-- A row: the bits of a word that select it and their value, its name, its operands in the order of its text, and its
-- instruction by the fields of these operands in that order.
pub record Row : Type 0 where
  pub mask : ℕ
  pub value : ℕ
  pub name : List ℕ
  pub operands : List Operand
  pub inst : List ℕ → Inst

-- a row of a selector, its operands and its instruction
abbrev pub row : Selector → List Operand → (List ℕ → Inst) → Row
row s operands inst =
    record { mask = s.mask; value = s.value; name = s.name; operands = operands; inst = inst }

-- an instruction without fields, and of the first one to four of a list
abbrev pub none : Inst → List ℕ → Inst
none f fields = f

abbrev pub one : (ℕ → Inst) → List ℕ → Inst
one f fields = f (slice_index fields 0)

abbrev pub two : (ℕ → ℕ → Inst) → List ℕ → Inst
two f fields = f (slice_index fields 0) (slice_index fields 1)

abbrev pub three : (ℕ → ℕ → ℕ → Inst) → List ℕ → Inst
three f fields = f (slice_index fields 0) (slice_index fields 1) (slice_index fields 2)

abbrev pub four : (ℕ → ℕ → ℕ → ℕ → Inst) → List ℕ → Inst
four f fields = f (slice_index fields 0) (slice_index fields 1) (slice_index fields 2) (slice_index fields 3)

-- an instruction of fields that it shares with others, by the list of these
abbrev pub of_registers : (RegisterFields → Inst) → List ℕ → Inst
of_registers f fields = f (register_fields fields)

abbrev pub of_shift_by : (RegisterFields → Inst) → List ℕ → Inst
of_shift_by f fields = f (shift_by_fields fields)

abbrev pub of_scalar_memory : (ScalarMemoryFields → Inst) → List ℕ → Inst
of_scalar_memory f fields = f (scalar_memory_fields fields)

abbrev pub of_vectors : (VectorFields → Inst) → List ℕ → Inst
of_vectors f fields = f (vector_fields fields)

abbrev pub of_vector_memory : (VectorMemoryFields → Inst) → List ℕ → Inst
of_vector_memory f fields = f (vector_memory_fields fields)

-- whether a row fits a word: under its mask the word is its value
abbrev pub fits : ℕ → Row → Bool
fits w r = bit_and w r.mask == r.value

-- the bit fields of its operands, in the order of its text
abbrev pub row_bit_fields : Row → List BitField
row_bit_fields r = flat_map bit_fields r.operands

-- the fields of a word, in the order of the row's text
abbrev pub fields : Row → ℕ → List ℕ
fields r w = map (value_at w) (row_bit_fields r)

-- the instruction of a word that the row fits
abbrev pub meaning_of : Row → ℕ → Inst
meaning_of r w = r.inst (fields r w)
