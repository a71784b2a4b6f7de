-- Scaffolding of proofs: breakpoints as bits of words.
use Rattle.std.specs.Prelude.{◌/◌, ◌%◌, ◌==◌, ℕ, List, map, slice_index, Bool}
use Rattle.std.specs.List.{range_with_len}
use Rattle.std.specs.Int.{bit_at}

-- the first n truth values of a test
unfoldable pub table : (ℕ → Bool) → ℕ → List Bool
table test n = map test (range_with_len 0 n)

-- whether bit i is set, of sixteen words of 64 bits
abbrev pub is_set : List ℕ → ℕ → Bool
is_set words i = bit_at (slice_index words (i / 64)) (i % 64) == 1

-- the truth values of their 1024 bits
unfoldable pub breaks_of : List ℕ → List Bool
breaks_of words = table (is_set words) 1024
