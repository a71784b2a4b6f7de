-- Scaffolding of the contracts: what the assembler's code returns for one operand.
use Rattle.std.specs.Prelude.{ℕ, Bool, List, Option, Some, None, Result, Ok, Err}
use Rattle.rsp_decode.specs.Table.{BitField, with_fields}
use Rattle.rsp_syntax.specs.declared.fault.AsmFaultKind.{AsmFaultKind}
use Rattle.rsp_syntax.specs.declared.fault.AsmFaultKind.TheVariants.{BadOperand}
use Rattle.rsp_syntax.specs.declared.operand_range.OperandRange.TheVariants.{Word}
use Rattle.rsp_syntax.specs.Numbers.{Expression}
use Rattle.rsp_syntax.specs.Statement.{Labels, OperandValue, evaluate, field_of, fields_of, number_fails}

-- an operand without a label is out of its range, whatever the labels are
abbrev pub operand_fails : ℕ → OperandValue → Bool
operand_fails address r = number_fails address r.value

-- the fields of an operand, or why it has none; None is a text that can't be read
abbrev pub reading_fields : Labels → ℕ → Option OperandValue → Result (List ℕ) AsmFaultKind
reading_fields labels address None = Err BadOperand
reading_fields labels address (Some r) = fields_of labels address r

-- a word with an operand's values in its bit fields
abbrev pub with_values : ℕ → List BitField → Result (List ℕ) AsmFaultKind → Result ℕ AsmFaultKind
with_values w ps (Err kind) = Err kind
with_values w ps (Ok vs) = Ok (with_fields w ps vs)

-- a number of .word without a label is out of its range, whatever the labels are
abbrev pub word_fails : Expression → Bool
word_fails e = number_fails 0 (Some (Word, e))

-- the word of a number of .word
abbrev pub word_value : Labels → Expression → Result ℕ AsmFaultKind
word_value labels e = field_of Word 0 (evaluate labels e)
