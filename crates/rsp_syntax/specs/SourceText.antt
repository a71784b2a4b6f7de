-- What a source text means: the words that it assembles to, or its fault. Two passes go over the lines: the first finds the
-- labels and each fault that needs no label, the second gives the words. Lines are counted from 0 here; a fault counts its line
-- from 1.
use Rattle.std.specs.Prelude.{ℕ, zero, suc, ◌+◌, ◌*◌, List, [], ◌∷◌, ◌++◌, length, slice_index_or, Option, Some, None, Result, Ok, Err}
use Rattle.std.specs.Str.Lines.{lines}
use Rattle.rsp_syntax.specs.declared.fault.AsmFault.{AsmFault}
use Rattle.rsp_syntax.specs.declared.fault.AsmFaultKind.{AsmFaultKind}
use Rattle.rsp_syntax.specs.Statement.{Labels}
use Rattle.rsp_syntax.specs.SourceLine.{label_of, line_size, first_fault, line_words}

-- line k
abbrev pub line_at : List (List ℕ) → ℕ → List ℕ
line_at ls k = slice_index_or ls k []

-- the address of line k: that of the first word, and four bytes for each word of the lines before it
abbrev pub address_of_line : ℕ → List (List ℕ) → ℕ → ℕ
address_of_line origin ls zero = origin
address_of_line origin ls (suc k) = address_of_line origin ls k + 4 * line_size (line_at ls k)

-- the label of a line at an address, if it has one
abbrev pub labelled : Option (List ℕ) → ℕ → Labels
labelled None address = []
labelled (Some name) address = (name, address) ∷ []

-- the labels of the lines before line k, each with the address of its line
abbrev pub labels_before : ℕ → List (List ℕ) → ℕ → Labels
labels_before origin ls zero = []
labels_before origin ls (suc k) = labels_before origin ls k ++ labelled (label_of (line_at ls k)) (address_of_line origin ls k)

-- the labels of all lines
abbrev pub all_labels : ℕ → List (List ℕ) → Labels
all_labels origin ls = labels_before origin ls (length ls)

-- the fault that the first pass finds in line k
abbrev pub fault_of_line : ℕ → List (List ℕ) → ℕ → Option AsmFaultKind
fault_of_line origin ls k = first_fault (labels_before origin ls k) (address_of_line origin ls k) (line_at ls k)

-- the words that the second pass gives for line k with these labels, or the fault that it finds there
abbrev pub words_of_line : Labels → ℕ → List (List ℕ) → ℕ → Result (List ℕ) AsmFaultKind
words_of_line labels origin ls k = line_words labels (address_of_line origin ls k) (line_at ls k)

abbrev pub fault_at : ℕ → AsmFaultKind → AsmFault
fault_at number kind = record { line = number; kind = kind }

-- the fault found so far, or if there is none that of the next line
abbrev pub or_fault : Option AsmFault → ℕ → Option AsmFaultKind → Option AsmFault
or_fault (Some fault) number found = Some fault
or_fault None number None = None
or_fault None number (Some kind) = Some (fault_at number kind)

-- the fault that the first pass finds in the lines before line k: that of the lowest line that has one
abbrev pub fault_before : ℕ → List (List ℕ) → ℕ → Option AsmFault
fault_before origin ls zero = None
fault_before origin ls (suc k) = or_fault (fault_before origin ls k) (suc k) (fault_of_line origin ls k)

-- the fault found so far, or if there is none the words so far with those of the next line, or its fault
abbrev pub and_words : Result (List ℕ) AsmFault → ℕ → Result (List ℕ) AsmFaultKind → Result (List ℕ) AsmFault
and_words (Err fault) number found = Err fault
and_words (Ok words) number (Err kind) = Err (fault_at number kind)
and_words (Ok words) number (Ok more) = Ok (words ++ more)

-- the words of the lines before line k, or the fault that the second pass finds in the lowest of them that has one
abbrev pub words_before : Labels → ℕ → List (List ℕ) → ℕ → Result (List ℕ) AsmFault
words_before labels origin ls zero = Ok []
words_before labels origin ls (suc k) = and_words (words_before labels origin ls k) (suc k) (words_of_line labels origin ls k)

-- a fault of the first pass is reported before any of the second
abbrev pub unless : Option AsmFault → Result (List ℕ) AsmFault → Result (List ℕ) AsmFault
unless None words = words
unless (Some fault) words = Err fault

-- what lines mean if their first word is at the origin: their words, or a fault. Each line may use the labels of all lines.
abbrev pub meaning_of_lines : List (List ℕ) → ℕ → Result (List ℕ) AsmFault
meaning_of_lines ls origin = unless (fault_before origin ls (length ls)) (words_before (all_labels origin ls) origin ls (length ls))

-- what a source text means if its first word is at the origin: its words, or its fault
abbrev pub meaning_of_text : List ℕ → ℕ → Result (List ℕ) AsmFault
meaning_of_text text origin = meaning_of_lines (lines text) origin
