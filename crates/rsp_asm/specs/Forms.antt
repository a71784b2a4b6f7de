-- Scaffolding of the contracts: a statement whose operands are still to be read, as the code has it. What a statement means is
-- in Statement of rsp_syntax.
use Rattle.std.specs.Prelude.{◌≡◌, ℕ, List, true, Option, Some, None, Result, Ok}
use Rattle.std.specs.List.{list_all}
use Rattle.rsp_decode.specs.Table as table
use Rattle.rsp_decode.specs.Table.{Entry, entry_of, entry, is_row_operand}
use Rattle.rsp_syntax.specs.declared.fault.AsmFaultKind.{AsmFaultKind}
use Rattle.rsp_syntax.specs.Statement as meaning
use Rattle.rsp_syntax.specs.Statement.{nothing, no_operation, numbers_form, row_form, operand_texts, statement_of_form, with_operands}
use Rattle.rsp_asm.specs.declared.statement.Form.{Form}
use Rattle.rsp_asm.specs.declared.statement.Form.TheVariants.{NoOperation, Numbers, Row}
use Rattle.rsp_asm.specs.declared.statement.Statement.{Statement}

-- a form, with all that the code has of an instruction's row
pub data Shape : Type 0 where
  nothing_shape : Shape
  numbers_shape : Shape
  row_shape : Entry → Shape

abbrev pub form : Form → Shape
form NoOperation = nothing_shape
form Numbers = numbers_shape
form (Row row) = row_shape (entry row)

abbrev pub form_shape : meaning.Form → Shape
form_shape no_operation = nothing_shape
form_shape numbers_form = numbers_shape
form_shape (row_form row) = row_shape (entry_of row)

-- the statement of a form with these operands
abbrev pub with_texts : meaning.Form → List ℕ → Result meaning.Statement AsmFaultKind
with_texts form operands = with_operands (statement_of_form form (operand_texts operands))

-- the statement is that of an instruction with this entry
pub record SaysRow (e : Entry) (operands : List ℕ) (said : Result meaning.Statement AsmFaultKind) : Type 0 where
  pub row : table.Row
  pub same : entry_of row ≡ e
  pub usable : list_all is_row_operand e.operands ≡ true
  pub is : said ≡ with_texts (row_form row) operands

abbrev pub SaysForm : Form → List ℕ → Result meaning.Statement AsmFaultKind → Type 0
SaysForm NoOperation operands said = said ≡ with_texts no_operation operands
SaysForm Numbers operands said = said ≡ with_texts numbers_form operands
SaysForm (Row row) operands said = SaysRow (entry row) operands said

-- what is said is the code's statement
abbrev pub Says : Option Statement → Result meaning.Statement AsmFaultKind → Type 0
Says None said = said ≡ Ok nothing
Says (Some s) said = SaysForm s.form s.operands.now said
