-- Scaffolding of the code: one lane of each of eight registers, as LTV writes them.
use Rattle.std.specs.Prelude.{ℕ, ◌+◌, ◌-◌, ◌%◌, List, slice_index, slice_set}
use Rattle.std.specs.List.{range_with_len, fold}
use Rattle.rsp_loadstore.specs.File.{vector, with_vector}

-- the registers after register l of the eight from `first` on got one lane of a list: lane 0 goes to number `half` of
-- the eight, lane 1 to the next, and so on, modulo 8
abbrev pub with_diagonal_lane : List ℕ → ℕ → ℕ → List (List ℕ) → ℕ → List (List ℕ)
with_diagonal_lane lanes first half file l =
    with_vector file (first + l) (slice_set (vector file (first + l)) ((l + 8 - half) % 8) (slice_index lanes ((l + 8 - half) % 8)))

-- the registers after the first n of the eight got their lanes
unfoldable pub with_diagonal : List ℕ → ℕ → ℕ → List (List ℕ) → ℕ → List (List ℕ)
with_diagonal lanes first half file n = fold (with_diagonal_lane lanes first half) file (range_with_len 0 n)
