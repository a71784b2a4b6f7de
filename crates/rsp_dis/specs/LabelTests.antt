-- Scaffolding of the contracts: which addresses have labels, as the code has it.
use Rattle.std.specs.Prelude.{ℕ, ◌/◌, Bool, false, List, slice_index_or, Option, Some, None}

-- the mark of an address; there is one for each word of IMEM
abbrev pub marked : List Bool → ℕ → Bool
marked marks address = slice_index_or marks (address / 4) false

-- no address has a label if there are no marks
abbrev pub labels_in : Option (List Bool) → ℕ → Bool
labels_in None address = false
labels_in (Some marks) address = marked marks address
