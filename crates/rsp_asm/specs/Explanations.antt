-- The operand for which a line is refused, and what may be in its place. At which address the line is plays no part: the range of
-- an operand is the same everywhere.
use Rattle.std.specs.Prelude.{ℕ, zero, suc, ◌+◌, ◌-◌, ◌*◌, ◌%◌, ◌==◌, ◌≡◌, ◌↔◌, Bool, true, false, List, [], ◌∷◌, length, is_none, option_map, Option, Some, None, Result, Ok, Err, if◌then◌else◌, ℤ, pos, negsuc, neg_ℤ, unsigned_abs, ◌≤ℤ◌}
use Rattle.std.specs.List.{before_first, after_first}
use Rattle.std.specs.Option.{option_or}
use Rattle.rsp_decode.specs.Table.{Operand, shift_amount, signed, unsigned, jump_target, branch_target, scalar_memory, vector_memory}
use Rattle.rsp_syntax.specs.declared.fault.AsmFault.{AsmFault}
use Rattle.rsp_syntax.specs.declared.fault.AsmFaultKind.{AsmFaultKind}
use Rattle.rsp_syntax.specs.declared.fault.AsmFaultKind.TheVariants.{BadOperand, OutOfRange, LabelMissing}
use Rattle.rsp_syntax.specs.declared.line_bytes.Boundary.TheVariants.{Blank}
use Rattle.rsp_syntax.specs.declared.operand_range.OperandRange.{OperandRange}
use Rattle.rsp_syntax.specs.declared.operand_range.OperandRange.TheVariants.{Half, Amount, Jump, Branch, Scaled, Word}
use Rattle.rsp_syntax.specs.Cuts.{is_boundary}
use Rattle.rsp_syntax.specs.Numbers.{expression_of}
use Rattle.rsp_syntax.specs.Statement.{Labels, OperandValue, ranged_value, read, number_fails, field_of, fields_of, Form, no_operation, numbers_form, row_form, form_named, operand_texts}
use Rattle.rsp_syntax.specs.SourceLine.{LineParts, split_line}
use Rattle.rsp_syntax.specs.SourceText.{line_at, all_labels, fault_before, words_before}
use Rattle.rsp_asm.specs.declared.explanation.Expected.{Expected}
use Rattle.rsp_asm.specs.declared.explanation.Expected.TheVariants.{Kind, Number, Nothing}
use Rattle.rsp_asm.specs.declared.explanation.FaultyOperand.{FaultyOperand}
use Rattle.rsp_asm.specs.declared.explanation.Bounds.{Bounds}

-- ---- what a statement takes

-- operand i, counted from 0, of an instruction with operands of these kinds
abbrev pub kind_at : List Operand → ℕ → Expected
kind_at [] i = Nothing
kind_at (k ∷ ks) zero = Kind k
kind_at (k ∷ ks) (suc i) = kind_at ks i

-- operand i of a statement
abbrev pub expected : Form → ℕ → Expected
expected no_operation i = Nothing
expected numbers_form i = Number
expected (row_form row) i = kind_at row.operands i

-- a text without operand i lacks it; .word takes one number or more
abbrev pub is_required : Expected → ℕ → Bool
is_required (Kind k) i = true
is_required Number i = i == 0
is_required Nothing i = false

-- ---- whether an operand has a fault

abbrev pub is_error : Result (List ℕ) AsmFaultKind → Bool
is_error (Ok vs) = false
is_error (Err kind) = true

-- an operand is out of its range, or its label is missing. Without labels only a number can be.
abbrev pub is_refused : Option Labels → OperandValue → Bool
is_refused None r = number_fails 0 r.value
is_refused (Some labels) r = is_error (fields_of labels 0 r)

-- the same of an operand's text; None if that can't be read
abbrev pub verdict : Option Labels → Expected → List ℕ → Option Bool
verdict labels (Kind k) t = option_map (is_refused labels) (read k t)
verdict labels Number t = option_map (λ e. is_refused labels (ranged_value Word [] e)) (expression_of t)
verdict labels Nothing t = None

abbrev pub is_yes : Option Bool → Bool
is_yes None = false
is_yes (Some b) = b

-- ---- which operand it is

-- operand i of its line; its number counts from 1
abbrev pub operand : ℕ → Expected → FaultyOperand
operand i e = record { number = i + 1; expected = e }

-- the first operand, from operand i on, that is missing or can't be read
abbrev pub unread : Option Labels → (ℕ → Expected) → ℕ → List (List ℕ) → Option FaultyOperand
unread labels takes i [] = if is_required (takes i) i then Some (operand i (takes i)) else None
unread labels takes i (t ∷ ts) = if is_none (verdict labels (takes i) t) then Some (operand i (takes i)) else unread labels takes (i + 1) ts

-- the first that is refused
abbrev pub refused : Option Labels → (ℕ → Expected) → ℕ → List (List ℕ) → Option FaultyOperand
refused labels takes i [] = None
refused labels takes i (t ∷ ts) = if is_yes (verdict labels (takes i) t) then Some (operand i (takes i)) else refused labels takes (i + 1) ts

-- an operand that can't be read comes before one that is refused, wherever they are
abbrev pub faulty_from : Option Labels → (ℕ → Expected) → ℕ → List (List ℕ) → Option FaultyOperand
faulty_from labels takes i ts = option_or (unread labels takes i ts) (refused labels takes i ts)

abbrev pub faulty_in_form : Option Labels → Option Form → List (List ℕ) → Option FaultyOperand
faulty_in_form labels None ts = None
faulty_in_form labels (Some form) ts = faulty_from labels (expected form) 0 ts

abbrev pub faulty_in_operands : Option Labels → List ℕ → List (List ℕ) → Option FaultyOperand
faulty_in_operands labels name ts = faulty_in_form labels (form_named name (length ts)) ts

abbrev pub faulty_in_parts : Option Labels → Option LineParts → Option FaultyOperand
faulty_in_parts labels None = None
faulty_in_parts labels (Some p) = faulty_in_operands labels (before_first (is_boundary Blank) p.body) (operand_texts (after_first (is_boundary Blank) p.body))

-- the operand of a line that has a fault
unfoldable pub faulty_in_line : Option Labels → List ℕ → Option FaultyOperand
faulty_in_line labels line = faulty_in_parts labels (split_line line)

-- ---- the operand for which a text is refused

-- the fault is one of an operand
abbrev pub is_of_operand : AsmFaultKind → Bool
is_of_operand BadOperand = true
is_of_operand OutOfRange = true
is_of_operand LabelMissing = true
is_of_operand _ = false

abbrev pub operand_of_fault : Option Labels → List (List ℕ) → AsmFault → Option FaultyOperand
operand_of_fault labels ls fault = if is_of_operand fault.kind then faulty_in_line labels (line_at ls (fault.line - 1)) else None

abbrev pub explained_words : Labels → List (List ℕ) → Result (List ℕ) AsmFault → Option FaultyOperand
explained_words labels ls (Ok words) = None
explained_words labels ls (Err fault) = operand_of_fault (Some labels) ls fault

-- a fault of the first pass is one without labels; else it is one of the second, which knows them
abbrev pub explained : ℕ → List (List ℕ) → Option AsmFault → Option FaultyOperand
explained origin ls (Some fault) = operand_of_fault None ls fault
explained origin ls None = explained_words (all_labels origin ls) ls (words_before (all_labels origin ls) origin ls (length ls))

-- the operand for which lines are refused if their first word is at the origin; None if they aren't, or for another reason
unfoldable pub explanation : ℕ → List (List ℕ) → Option FaultyOperand
explanation origin ls = explained origin ls (fault_before origin ls (length ls))

-- ---- what may be in its place

-- the range of an operand's value, if it has one
abbrev pub range_of_kind : Operand → Option OperandRange
range_of_kind shift_amount = Some Amount
range_of_kind signed = Some Half
range_of_kind unsigned = Some Half
range_of_kind jump_target = Some Jump
range_of_kind branch_target = Some Branch
range_of_kind scalar_memory = Some Half
range_of_kind (vector_memory scale) = Some (Scaled scale)
range_of_kind _ = None

abbrev pub range_of : Expected → Option OperandRange
range_of (Kind k) = range_of_kind k
range_of Number = Some Word
range_of Nothing = None

-- the numbers of a range: the multiples of the step from the lowest to the highest
abbrev pub bounds_of_range : OperandRange → Bounds
bounds_of_range Half = record { low = negsuc 32767; high = pos 65535; step = 1 }
bounds_of_range Amount = record { low = pos 0; high = pos 31; step = 1 }
bounds_of_range Jump = record { low = pos 0; high = pos 4092; step = 4 }
bounds_of_range Branch = record { low = pos 0; high = pos 4092; step = 4 }
bounds_of_range (Scaled scale) = record { low = neg_ℤ (pos (64 * scale)); high = pos (63 * scale); step = scale }
bounds_of_range Word = record { low = negsuc 2147483647; high = pos 4294967295; step = 1 }

-- one of these numbers
abbrev pub IsWithin : Bounds → ℤ → Type 0
IsWithin b z = (b.low ≤ℤ z) × (z ≤ℤ b.high) × (unsigned_abs z % b.step ≡ 0)

-- At each address a value is out of its range exactly if it isn't one of the numbers of the range.
abbrev pub BoundsHold : Type 0
BoundsHold = (range : OperandRange) (address : ℕ) (z : ℤ) → (field_of range address (Some z) ≡ Err OutOfRange) ↔ ¬ (IsWithin (bounds_of_range range) z)

abbrev pub bounds : Expected → Option Bounds
bounds e = option_map bounds_of_range (range_of e)

-- the text of operand i of a line; None if it has fewer
abbrev pub text_at : List (List ℕ) → ℕ → Option (List ℕ)
text_at [] i = None
text_at (t ∷ ts) zero = Some t
text_at (t ∷ ts) (suc i) = text_at ts i

abbrev pub text_in_parts : Option LineParts → ℕ → Option (List ℕ)
text_in_parts None i = None
text_in_parts (Some p) i = text_at (operand_texts (after_first (is_boundary Blank) p.body)) i

unfoldable pub operand_text : List ℕ → ℕ → Option (List ℕ)
operand_text line i = text_in_parts (split_line line) i

-- the name of a line's statement; empty if it has none, or is no line
abbrev pub name_in_parts : Option LineParts → List ℕ
name_in_parts None = []
name_in_parts (Some p) = before_first (is_boundary Blank) p.body

unfoldable pub statement_name : List ℕ → List ℕ
statement_name line = name_in_parts (split_line line)
