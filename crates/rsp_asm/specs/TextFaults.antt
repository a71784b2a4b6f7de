-- Each fault of a text, where `meaning_of_text` has only the first: the first pass continues after a line that has a fault. Such a
-- line gives no words, but its label counts for the lines after it, unless a line before has the same label.
use Rattle.std.specs.Prelude.{◌≡◌, ℕ, ◌+◌, ◌*◌, ◌&&◌, ◌||◌, Bool, true, false, List, [], ◌∷◌, ◌++◌, length, slice_get, Option, Some, None, if◌then◌else◌}
use Rattle.rsp_syntax.specs.declared.fault.AsmFault.{AsmFault}
use Rattle.rsp_syntax.specs.declared.fault.AsmFaultKind.{AsmFaultKind}
use Rattle.rsp_syntax.specs.declared.fault.AsmFaultKind.TheVariants.{PastEnd}
use Rattle.rsp_syntax.specs.Statement.{Labels}
use Rattle.rsp_syntax.specs.SourceLine.{first_fault, label_of, line_size, is_label_taken}
use Rattle.rsp_syntax.specs.SourceText.{fault_at, fault_before, labelled}

abbrev pub is_past_end : Option AsmFaultKind → Bool
is_past_end (Some PastEnd) = true
is_past_end _ = false

-- what counts of the fault of a line: of PastEnd only the first
abbrev pub counted : Bool → Option AsmFaultKind → Option AsmFaultKind
counted is_full found = if is_full && is_past_end found then None else found

-- the labels after a line; a line that is refused as BadLine has none
abbrev pub labels_after : Labels → ℕ → List ℕ → Labels
labels_after labels address line = if is_label_taken labels (label_of line) then labels else labelled (label_of line) address ++ labels

-- the address after a line, whose fault is this
abbrev pub address_after : Option AsmFaultKind → ℕ → List ℕ → ℕ
address_after None address line = address + 4 * line_size line
address_after (Some kind) address line = address

-- the fault of the line with this number, if it has one
abbrev pub reported : ℕ → Option AsmFaultKind → List AsmFault
reported number None = []
reported number (Some kind) = fault_at number kind ∷ []

-- the faults of the lines that are left, the first of which has this number: the labels so far, the address of the next word, and
-- whether a line before was refused as PastEnd
abbrev pub faults_from : Labels → ℕ → Bool → ℕ → List (List ℕ) → List AsmFault
faults_from labels address is_full number [] = []
faults_from labels address is_full number (line ∷ ls) =
    let found = first_fault labels address line in
    reported number (counted is_full found)
    ++ faults_from (labels_after labels address line) (address_after found address line) (is_full || is_past_end found) (number + 1) ls

-- all faults that the first pass finds in lines whose first word is at the origin
abbrev pub all_faults : ℕ → List (List ℕ) → List AsmFault
all_faults origin ls = faults_from [] origin false 1 ls

-- the first of all faults is the one that the first pass ends with
abbrev pub FirstFaultEnds : Type 0
FirstFaultEnds = (origin : ℕ) (ls : List (List ℕ)) → slice_get (all_faults origin ls) 0 ≡ fault_before origin ls (length ls)
