-- Scaffolding of the code: consecutive bytes that are written at once.
use Rattle.std.specs.Prelude.{ℕ, ◌+◌, List, ◌++◌, take, drop, length}

-- a list after bytes are written over those from an index on
abbrev pub spliced : List ℕ → ℕ → List ℕ → List ℕ
spliced list at bytes = take at list ++ bytes ++ drop (at + length bytes) list
