-- The faults that `assemble` may return.
use Rattle.std.specs.Prelude.{◌≡◌, ◌⊎◌, ℕ, ◌-◌, ◌<◌, ◌≤◌, List, [], length, slice_index_or, is_some, true, None, Err}
use Rattle.std.specs.Str.Lines.{lines}
use Rattle.rsp_syntax.specs.declared.fault.AsmFault.{AsmFault}
use Rattle.rsp_syntax.specs.declared.fault.AsmFaultKind.TheVariants.{OutOfMemory}
use Rattle.rsp_syntax.specs.SourceLine.{label_of}
use Rattle.rsp_syntax.specs.SourceText.{fault_before, meaning_of_text}

-- There was no memory for the label of a line, and that hides no fault of the text: the line has a label, and neither the line
-- nor one before it has a fault of the first pass.
pub record HidesNoFault (address : ℕ) (ls : List (List ℕ)) (line : ℕ) : Type 0 where
  pub positive : 0 < line
  pub inside : line ≤ length ls
  pub labelled : is_some (label_of (slice_index_or ls (line - 1) [])) ≡ true
  pub clean : fault_before address ls line ≡ None

-- the fault OutOfMemory, at a line at which it hides no fault of the text
pub record IsOutOfMemory (origin : ℕ) (text : List ℕ) (fault : AsmFault) : Type 0 where
  pub kind : fault.kind ≡ OutOfMemory
  pub hides : HidesNoFault origin (lines text) fault.line

-- no text, at no origin, means the fault OutOfMemory
abbrev pub NoTextMeansOutOfMemory : Type 0
NoTextMeansOutOfMemory = (text : List ℕ) (origin : ℕ) (fault : AsmFault) → meaning_of_text text origin ≡ Err fault → ¬ (fault.kind ≡ OutOfMemory)

-- the fault of the text, or OutOfMemory
abbrev pub IsFault : ℕ → List ℕ → AsmFault → Type 0
IsFault origin text fault = (meaning_of_text text origin ≡ Err fault) ⊎ IsOutOfMemory origin text fault
