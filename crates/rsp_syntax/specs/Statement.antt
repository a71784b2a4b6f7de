-- What a statement means, given its address and the labels. A statement is a line without label and comment.
use Rattle.std.specs.Prelude.{ℕ, suc, ◌^◌, ◌+◌, ◌-◌, ◌*◌, ◌/◌, ◌%◌, ◌==◌, nat_le, nat_lt, Bool, false, ◌&&◌, List, [], ◌∷◌, ◌++◌, length, map, find, is_none, Option, Some, None, option_map, option_and_then, Result, Ok, Err, if◌then◌else◌, codes, ℤ, pos, negsuc, ◌+ℤ◌}
use Rattle.std.specs.List.{before_first, after_first, slice_split}
use Rattle.std.specs.Str.{bytes_eq, str_eq_ignore_ascii_case}
use Rattle.rsp_decode.specs.Table.{Operand, scalar, Row, row, selector, one, rows, word_from}
use Rattle.rsp_decode.specs.declared.inst.Inst.TheVariants.{JumpLinkRegister}
use Rattle.rsp_syntax.specs.declared.fault.AsmFaultKind.{AsmFaultKind}
use Rattle.rsp_syntax.specs.declared.fault.AsmFaultKind.TheVariants.{UnknownName, BadOperand, OutOfRange, LabelMissing}
use Rattle.rsp_syntax.specs.declared.line_bytes.Boundary.TheVariants.{Blank, Comma}
use Rattle.rsp_syntax.specs.declared.operand_range.OperandRange.{OperandRange}
use Rattle.rsp_syntax.specs.declared.operand_range.OperandRange.TheVariants.{Half, Amount, Jump, Branch, Scaled, Word}
use Rattle.rsp_syntax.specs.Chars.{trim}
use Rattle.rsp_syntax.specs.Cuts.{is_boundary}
use Rattle.rsp_syntax.specs.Numbers.{Expression, expression_of}
pub use Rattle.rsp_syntax.specs.Operands.{OperandValue, one_register, pair, ranged_value, base_of, zero_expression, offset_of, memory, bracketed, half_start, byte_named, lane_named, with_element, bracket_of, memory_operand, read}

-- ---- values

-- labels with their addresses
abbrev pub Labels : Type 0
Labels = List (List ℕ × ℕ)

-- the address of a label; None if no line has it
abbrev pub find_label : Labels → List ℕ → Option ℕ
find_label [] name = None
find_label (l ∷ ls) name = if bytes_eq l.0 name then Some l.1 else find_label ls name

-- a number from -32768 to 65535, modulo 65536
abbrev pub half : ℤ → Option ℕ
half (pos n) = if nat_lt n 65536 then Some n else None
half (negsuc n) = if nat_lt n 32768 then Some (65535 - n) else None

-- a number from -2147483648 to 4294967295, modulo 2^32
abbrev pub word : ℤ → Option ℕ
word (pos n) = if nat_lt n 4294967296 then Some n else None
word (negsuc n) = if nat_lt n 2147483648 then Some (4294967295 - n) else None

-- the field of a branch at an address: its target is a multiple of 4 from 0 to 4092, counted in words from the delay slot
abbrev pub branch : ℕ → ℤ → Option ℕ
branch address (pos t) = if nat_lt t 4096 && t % 4 == 0 then Some ((t / 4 + 65535 - address / 4) % 65536) else None
branch address (negsuc t) = None

-- a shift amount, from 0 to 31
abbrev pub amount : ℤ → Option ℕ
amount (pos n) = if nat_lt n 32 then Some n else None
amount (negsuc n) = None

-- the field of a jump to a target, a multiple of 4 from 0 to 4092
abbrev pub jump : ℤ → Option ℕ
jump (pos t) = if nat_lt t 4096 && t % 4 == 0 then Some (t / 4) else None
jump (negsuc t) = None

-- an offset of a vector load or store, a multiple of the scale from -64 to 63 times it, modulo 128
abbrev pub scaled_offset : ℕ → ℤ → Option ℕ
scaled_offset scale (pos n) = if n % scale == 0 && nat_lt (n / scale) 64 then Some (n / scale) else None
scaled_offset scale (negsuc n) = if suc n % scale == 0 && nat_le (suc n / scale) 64 then Some (128 - suc n / scale) else None

-- the field of a value, for a statement at an address; None if it is out of range
abbrev pub field : OperandRange → ℕ → ℤ → Option ℕ
field Half address z = half z
field Amount address z = amount z
field Jump address z = jump z
field Branch address z = branch address z
field (Scaled scale) address z = scaled_offset scale z
field Word address z = word z

-- the number to which an expression adds its offset: 0, or the address of its label
abbrev pub label_address : Labels → Option (List ℕ) → Option ℕ
label_address labels None = Some 0
label_address labels (Some name) = find_label labels name

-- the value of an expression; None if no line has its label
abbrev pub evaluate : Labels → Expression → Option ℤ
evaluate labels e = option_map (λ p. pos p +ℤ e.offset) (label_address labels e.label)

abbrev pub or_out_of_range : Option ℕ → Result ℕ AsmFaultKind
or_out_of_range None = Err OutOfRange
or_out_of_range (Some v) = Ok v

abbrev pub field_of : OperandRange → ℕ → Option ℤ → Result ℕ AsmFaultKind
field_of range address None = Err LabelMissing
field_of range address (Some z) = or_out_of_range (field range address z)

abbrev pub then_registers : List ℕ → Result ℕ AsmFaultKind → Result (List ℕ) AsmFaultKind
then_registers ns (Ok v) = Ok (v ∷ ns)
then_registers ns (Err kind) = Err kind

abbrev pub fields_with : Labels → ℕ → List ℕ → Option (OperandRange × Expression) → Result (List ℕ) AsmFaultKind
fields_with labels address ns None = Ok ns
fields_with labels address ns (Some v) = then_registers ns (field_of v.0 address (evaluate labels v.1))

-- the fields of an operand, or why it has none
abbrev pub fields_of : Labels → ℕ → OperandValue → Result (List ℕ) AsmFaultKind
fields_of labels address r = fields_with labels address r.registers r.value

abbrev pub append : Result (List ℕ) AsmFaultKind → Result (List ℕ) AsmFaultKind → Result (List ℕ) AsmFaultKind
append (Err kind) later = Err kind
append (Ok vs) (Err kind) = Err kind
append (Ok vs) (Ok more) = Ok (vs ++ more)

-- the fields of all operands, or the fault of the leftmost that has one
abbrev pub all_fields : Labels → ℕ → List OperandValue → Result (List ℕ) AsmFaultKind
all_fields labels address [] = Ok []
all_fields labels address (r ∷ rs) = append (fields_of labels address r) (all_fields labels address rs)

-- an operand without a label is out of its range, whatever the labels are
abbrev pub number_fails : ℕ → Option (OperandRange × Expression) → Bool
number_fails address None = false
number_fails address (Some v) = is_none v.1.label && is_none (field v.0 address v.1.offset)

-- ---- statements

-- nothing; the numbers of .word; an instruction with its operands
pub data Statement : Type 0 where
  nothing : Statement
  numbers : List OperandValue → Statement
  instruction : Row → List OperandValue → Statement

abbrev pub readings : Statement → List OperandValue
readings nothing = []
readings (numbers rs) = rs
readings (instruction row rs) = rs

-- how many words a statement gives
abbrev pub size : Statement → ℕ
size nothing = 0
size (numbers rs) = length rs
size (instruction row rs) = 1

abbrev pub one_word : Row → Result (List ℕ) AsmFaultKind → Result (List ℕ) AsmFaultKind
one_word row (Err kind) = Err kind
one_word row (Ok vs) = Ok (word_from row vs ∷ [])

-- the words of a statement, or the fault of its leftmost operand that has one
abbrev pub words_of : Labels → ℕ → Statement → Result (List ℕ) AsmFaultKind
words_of labels address nothing = Ok []
words_of labels address (numbers rs) = all_fields labels address rs
words_of labels address (instruction row rs) = one_word row (all_fields labels address rs)

-- ---- the text of a statement

-- the instruction with this name, in either case
unfoldable pub row_named : List ℕ → Option Row
row_named name = find (λ (r : Row). str_eq_ignore_ascii_case name r.name) rows

-- jalr with one operand, which links in $31
abbrev pub linking_row : Row
linking_row = row (selector 0xfc00f83f (9 + 31 * 2 ^ 11) (codes "jalr")) (scalar 21 ∷ []) (one (JumpLinkRegister 31))

abbrev pub read_all : List Operand → List (List ℕ) → Option (List OperandValue)
read_all [] [] = Some []
read_all [] (t ∷ ts) = None
read_all (k ∷ ks) [] = None
read_all (k ∷ ks) (t ∷ ts) = option_and_then (λ r. option_map (λ rs. r ∷ rs) (read_all ks ts)) (read k t)

abbrev pub read_numbers : List (List ℕ) → Option (List OperandValue)
read_numbers [] = Some []
read_numbers (t ∷ ts) = option_and_then (λ e. option_map (λ rs. ranged_value Word [] e ∷ rs) (read_numbers ts)) (expression_of t)

-- the texts of the operands, between commas, without blanks at their ends
abbrev pub operand_texts : List ℕ → List (List ℕ)
operand_texts bs = if length bs == 0 then [] else map trim (slice_split (is_boundary Comma) bs)

-- the name of a statement: nop, .word, or an instruction of the table
pub data Form : Type 0 where
  no_operation : Form
  numbers_form : Form
  row_form : Row → Form

-- the form of a name with so many operands; None if no statement has the name
abbrev pub form_named : List ℕ → ℕ → Option Form
form_named name count =
    if str_eq_ignore_ascii_case name (codes "nop") then Some no_operation
    else (if str_eq_ignore_ascii_case name (codes ".word") then Some numbers_form
    else (if str_eq_ignore_ascii_case name (codes "jalr") && count == 1 then Some (row_form linking_row)
    else option_map row_form (row_named name)))

-- the statement of a form with these operands; None if it doesn't take them. nop is .word 0.
abbrev pub statement_of_form : Form → List (List ℕ) → Option Statement
statement_of_form no_operation [] = Some (numbers (ranged_value Word [] zero_expression ∷ []))
statement_of_form no_operation (t ∷ ts) = None
statement_of_form numbers_form [] = None
statement_of_form numbers_form (t ∷ ts) = option_map numbers (read_numbers (t ∷ ts))
statement_of_form (row_form row) ts = option_map (instruction row) (read_all row.operands ts)

abbrev pub with_operands : Option Statement → Result Statement AsmFaultKind
with_operands None = Err BadOperand
with_operands (Some s) = Ok s

abbrev pub with_form : Option Form → List (List ℕ) → Result Statement AsmFaultKind
with_form None ts = Err UnknownName
with_form (Some form) ts = with_operands (statement_of_form form ts)

abbrev pub statement_with : List ℕ → List (List ℕ) → Result Statement AsmFaultKind
statement_with name ts = with_form (form_named name (length ts)) ts

-- what the text of a statement says: a name up to the first blank, then operands
abbrev pub statement_of : List ℕ → Result Statement AsmFaultKind
statement_of bs =
    if length bs == 0 then Ok nothing
    else statement_with (before_first (is_boundary Blank) bs) (operand_texts (after_first (is_boundary Blank) bs))
