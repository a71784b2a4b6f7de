-- What a line means, given its address and the labels.
use Rattle.std.specs.Prelude.{ℕ, ◌+◌, ◌*◌, nat_lt, Bool, false, List, [], ◌∷◌, ◌++◌, flat_map, Option, Some, None, is_some, Result, Ok, Err, if◌then◌else◌}
use Rattle.std.specs.List.{list_any}
use Rattle.rsp_syntax.specs.declared.fault.AsmFaultKind.{AsmFaultKind}
use Rattle.rsp_syntax.specs.declared.fault.AsmFaultKind.TheVariants.{BadLine, OutOfRange, LabelTwice, PastEnd}
use Rattle.rsp_syntax.specs.declared.line_bytes.Boundary.TheVariants.{Comment, Colon}
use Rattle.rsp_syntax.specs.Chars.{is_line, skip_blanks, trim}
use Rattle.rsp_syntax.specs.Cuts.{cut}
use Rattle.rsp_syntax.specs.Numbers.{is_label}
use Rattle.rsp_syntax.specs.Statement.{Labels, find_label, OperandValue, Statement, readings, statement_of, size, number_fails, words_of}

-- the text of some lines, with LF after each
abbrev pub text_of_lines : List (List ℕ) → List ℕ
text_of_lines ls = flat_map (λ l. l ++ 10 ∷ []) ls

-- the parts of a line: its label, and the text of its statement
pub record LineParts : Type 0 where
  pub label : Option (List ℕ)
  pub body : List ℕ

-- the part before the separator, or the whole text if it isn't cut
abbrev pub part_before : Option (List ℕ × List ℕ) → List ℕ → List ℕ
part_before None bs = bs
part_before (Some p) bs = p.0

-- a line without its comment, and without blanks at both ends
abbrev pub without_comment : List ℕ → List ℕ
without_comment bs = trim (part_before (cut Comment bs) bs)

abbrev pub labelled_parts : Option (List ℕ × List ℕ) → List ℕ → Option LineParts
labelled_parts None bs = Some (record { label = None; body = bs })
labelled_parts (Some p) bs = if is_label p.0 then Some (record { label = Some p.0; body = skip_blanks p.1 }) else None

-- the parts of a line; None if it is no line, or has a colon without a label's name before it
abbrev pub split_line : List ℕ → Option LineParts
split_line bs = if is_line bs then labelled_parts (cut Colon (without_comment bs)) (without_comment bs) else None

abbrev pub label_in : Option LineParts → Option (List ℕ)
label_in None = None
label_in (Some p) = p.label

unfoldable pub label_of : List ℕ → Option (List ℕ)
label_of line = label_in (split_line line)

abbrev pub statement_size : Result Statement AsmFaultKind → ℕ
statement_size (Err kind) = 0
statement_size (Ok s) = size s

abbrev pub parts_size : Option LineParts → ℕ
parts_size None = 0
parts_size (Some p) = statement_size (statement_of p.body)

-- how many words a line gives
unfoldable pub line_size : List ℕ → ℕ
line_size line = parts_size (split_line line)

-- ---- the first pass

-- a line before has the same label
abbrev pub is_label_taken : Labels → Option (List ℕ) → Bool
is_label_taken labels None = false
is_label_taken labels (Some name) = is_some (find_label labels name)

-- an operand without a label is out of its range, whatever the labels are
abbrev pub has_bad_number : ℕ → Result Statement AsmFaultKind → Bool
has_bad_number address (Err kind) = false
has_bad_number address (Ok s) = list_any (λ (r : OperandValue). number_fails address r.value) (readings s)

abbrev pub statement_fault : ℕ → Result Statement AsmFaultKind → Option AsmFaultKind
statement_fault address (Err kind) = Some kind
statement_fault address (Ok s) =
    if has_bad_number address (Ok s) then Some OutOfRange
    else (if nat_lt 4096 (address + 4 * size s) then Some PastEnd else None)

abbrev pub parts_fault : Labels → ℕ → Option LineParts → Option AsmFaultKind
parts_fault labels address None = Some BadLine
parts_fault labels address (Some p) =
    if is_label_taken labels p.label then Some LabelTwice else statement_fault address (statement_of p.body)

-- the fault that the first pass finds in a line, after lines with these labels
unfoldable pub first_fault : Labels → ℕ → List ℕ → Option AsmFaultKind
first_fault labels address line = parts_fault labels address (split_line line)

-- ---- the second pass

abbrev pub statement_words : Labels → ℕ → Result Statement AsmFaultKind → Result (List ℕ) AsmFaultKind
statement_words labels address (Err kind) = Err kind
statement_words labels address (Ok s) = words_of labels address s

abbrev pub parts_words : Labels → ℕ → Option LineParts → Result (List ℕ) AsmFaultKind
parts_words labels address None = Err BadLine
parts_words labels address (Some p) = statement_words labels address (statement_of p.body)

-- the words of a line, or the fault that the second pass finds
unfoldable pub line_words : Labels → ℕ → List ℕ → Result (List ℕ) AsmFaultKind
line_words labels address line = parts_words labels address (split_line line)
