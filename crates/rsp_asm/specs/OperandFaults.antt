-- The fault of each operand of a line, where `faulty_in_line` has one operand: the first pass looks at each on its own.
use Rattle.std.specs.Prelude.{ℕ, Bool, true, false, List, length, Option, Some, None, option_map, if◌then◌else◌}
use Rattle.std.specs.List.{before_first, after_first}
use Rattle.rsp_syntax.specs.declared.fault.AsmFaultKind.{AsmFaultKind}
use Rattle.rsp_syntax.specs.declared.fault.AsmFaultKind.TheVariants.{BadOperand, OutOfRange}
use Rattle.rsp_syntax.specs.declared.line_bytes.Boundary.TheVariants.{Blank}
use Rattle.rsp_syntax.specs.Cuts.{is_boundary}
use Rattle.rsp_syntax.specs.Statement.{Form, form_named, operand_texts}
use Rattle.rsp_syntax.specs.SourceLine.{LineParts, split_line}
use Rattle.rsp_asm.specs.declared.explanation.Expected.{Expected}
use Rattle.rsp_asm.specs.declared.operand_faults.OperandFault.{OperandFault}
use Rattle.rsp_asm.specs.Forms.{Shape}
use Rattle.rsp_asm.specs.FormOperands.{expected_in}
use Rattle.rsp_asm.specs.Explanations.{expected, is_required, verdict, text_at}

-- the fault of an operand that can't be read, that is out of its range, or that is neither
abbrev pub fault_by_verdict : Option Bool → Option AsmFaultKind
fault_by_verdict None = Some BadOperand
fault_by_verdict (Some true) = Some OutOfRange
fault_by_verdict (Some false) = None

-- the fault of operand i, with its text if the line has it
abbrev pub fault_of_text : Expected → ℕ → Option (List ℕ) → Option AsmFaultKind
fault_of_text e i None = if is_required e i then Some BadOperand else None
fault_of_text e i (Some t) = fault_by_verdict (verdict None e t)

abbrev pub with_expected : Expected → Option AsmFaultKind → Option OperandFault
with_expected e fault = option_map (λ kind. record { expected = e; kind = kind }) fault

-- the fault of operand i of a statement with these operands, and what the statement takes there
abbrev pub fault_in_form : Option Form → List (List ℕ) → ℕ → Option OperandFault
fault_in_form None ts i = None
fault_in_form (Some form) ts i = with_expected (expected form i) (fault_of_text (expected form i) i (text_at ts i))

abbrev pub fault_in_operands : List ℕ → List (List ℕ) → ℕ → Option OperandFault
fault_in_operands name ts i = fault_in_form (form_named name (length ts)) ts i

abbrev pub fault_in_parts : Option LineParts → ℕ → Option OperandFault
fault_in_parts None i = None
fault_in_parts (Some p) i = fault_in_operands (before_first (is_boundary Blank) p.body) (operand_texts (after_first (is_boundary Blank) p.body)) i

-- the fault of operand i of a line, counted from 0
unfoldable pub operand_fault : List ℕ → ℕ → Option OperandFault
operand_fault line i = fault_in_parts (split_line line) i

-- the same of a statement as the code has it
abbrev pub fault_in_shape : Shape → List (List ℕ) → ℕ → Option OperandFault
fault_in_shape shape ts i = with_expected (expected_in shape i) (fault_of_text (expected_in shape i) i (text_at ts i))
