-- Scaffolding of the contracts: the tests by which the code searches the instruction table.
use Rattle.std.specs.Prelude.{ℕ, Bool, List, ◌==◌, bit_and}
use Rattle.std.specs.Str.{str_eq_ignore_ascii_case}
use Rattle.rsp_decode.specs.Table.{Entry}

-- an instruction has this name, in either case
abbrev pub has_name : List ℕ → Entry → Bool
has_name name e = str_eq_ignore_ascii_case name e.name

-- a word has the fixed bits of an instruction
abbrev pub is_selected : ℕ → Entry → Bool
is_selected w e = bit_and w e.mask == e.value
