-- Scaffolding of the contracts: what the two passes of the code return for a statement. What a statement means is in Statement
-- of rsp_syntax.
use Rattle.std.specs.Prelude.{◌≡◌, ℕ, Bool, ◌||◌, List, [], ◌∷◌, ◌++◌, length, flat_map, Option, Some, None, Result, Ok, Err, MatchResult, if◌then◌else◌}
use Rattle.std.specs.List.{list_any}
use Rattle.rsp_decode.specs.Table.{Entry, BitField, bit_fields}
use Rattle.rsp_syntax.specs.declared.fault.AsmFaultKind.{AsmFaultKind}
use Rattle.rsp_syntax.specs.declared.fault.AsmFaultKind.TheVariants.{BadOperand, OutOfRange}
use Rattle.rsp_syntax.specs.SourceLine.{has_bad_number}
use Rattle.rsp_syntax.specs.Statement.{Labels, OperandValue, Statement, all_fields, read_all, size}
use Rattle.rsp_syntax.specs.OperandResults.{operand_fails, with_values}

-- ---- the first pass

-- `count`, or the fault that operands have without labels. `bad` says that an operand before them is out of its range.
abbrev pub count_or_fault : ℕ → Bool → ℕ → Option (List OperandValue) → Result ℕ AsmFaultKind
count_or_fault address bad count None = Err BadOperand
count_or_fault address bad count (Some rs) = if bad || list_any (operand_fails address) rs then Err OutOfRange else Ok count

-- how many words a statement gives, or the fault that it has without labels
abbrev pub size_or_fault : ℕ → Result Statement AsmFaultKind → Result ℕ AsmFaultKind
size_or_fault address (Err kind) = Err kind
size_or_fault address (Ok s) = if has_bad_number address (Ok s) then Err OutOfRange else Ok (size s)

-- ---- the second pass

-- as many words as these were appended to the old ones
pub record Pushed (said : Result (List ℕ) AsmFaultKind) (count : ℕ) (old new : List ℕ) : Type 0 where
  pub words : List ℕ
  pub said_words : said ≡ Ok words
  pub kept : new ≡ old ++ words
  pub count_is : length words ≡ count

-- a call appends the words that a statement gives, this many, or returns its fault
abbrev pub Puts : Result (List ℕ) AsmFaultKind → ℕ → List ℕ → List ℕ → Result (Unit {0}) AsmFaultKind → Type 0
Puts said count old new result = MatchResult result (λ u. Pushed said count old new) (λ kind. said ≡ Err kind)

-- a word as a list
abbrev pub single : Result ℕ AsmFaultKind → Result (List ℕ) AsmFaultKind
single (Err kind) = Err kind
single (Ok w) = Ok (w ∷ [])

-- n if the operands can be read, else 0
abbrev pub counted : ℕ → Option (List OperandValue) → ℕ
counted n None = 0
counted n (Some rs) = n

-- how many words an instruction with these texts as operands gives
abbrev pub row_size : Entry → List (List ℕ) → ℕ
row_size e ts = counted 1 (read_all e.operands ts)

abbrev pub and_then : Result ℕ AsmFaultKind → (ℕ → Result ℕ AsmFaultKind) → Result ℕ AsmFaultKind
and_then (Err kind) more = Err kind
and_then (Ok w) more = more w

-- a word with the fields of these operands in these bit fields, or the fault of the leftmost that has one
abbrev pub word_with : Labels → ℕ → Result ℕ AsmFaultKind → List BitField → Option (List OperandValue) → Result ℕ AsmFaultKind
word_with labels address w ps None = Err BadOperand
word_with labels address w ps (Some rs) = and_then w (λ v. with_values v ps (all_fields labels address rs))

-- the word of an instruction with these texts as operands
abbrev pub row_word : Labels → ℕ → Entry → List (List ℕ) → Result ℕ AsmFaultKind
row_word labels address e ts = word_with labels address (Ok e.value) (flat_map bit_fields e.operands) (read_all e.operands ts)

abbrev pub row_words : Labels → ℕ → Entry → List (List ℕ) → Result (List ℕ) AsmFaultKind
row_words labels address e ts = single (row_word labels address e ts)
