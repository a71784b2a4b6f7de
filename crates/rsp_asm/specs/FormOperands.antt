-- Scaffolding of the contracts: what a statement takes as its operands, as the code has it.
use Rattle.std.specs.Prelude.{◌≡◌, ℕ, List, true, Option}
use Rattle.std.specs.List.{list_all}
use Rattle.rsp_decode.specs.Table.{is_row_operand}
use Rattle.rsp_syntax.specs.Statement.{Labels}
use Rattle.rsp_asm.specs.declared.explanation.Expected.{Expected}
use Rattle.rsp_asm.specs.declared.explanation.Expected.TheVariants.{Kind, Number, Nothing}
use Rattle.rsp_asm.specs.declared.explanation.FaultyOperand.{FaultyOperand}
use Rattle.rsp_asm.specs.Forms.{Shape, nothing_shape, numbers_shape, row_shape}
use Rattle.rsp_asm.specs.Explanations.{kind_at, faulty_from}

abbrev pub expected_in : Shape → ℕ → Expected
expected_in nothing_shape i = Nothing
expected_in numbers_shape i = Number
expected_in (row_shape e) i = kind_at e.operands i

-- operands of the kinds of the instruction table, which the code can put into a word
abbrev pub IsUsable : Expected → Type 0
IsUsable (Kind k) = is_row_operand k ≡ true
IsUsable Number = Unit {0}
IsUsable Nothing = Unit {0}

abbrev pub AreUsable : Shape → Type 0
AreUsable nothing_shape = Unit {0}
AreUsable numbers_shape = Unit {0}
AreUsable (row_shape e) = list_all is_row_operand e.operands ≡ true

abbrev pub faulty_in_shape : Option Labels → Shape → List (List ℕ) → Option FaultyOperand
faulty_in_shape labels shape ts = faulty_from labels (expected_in shape) 0 ts
