-- Scaffolding of proofs: the ring that a history is kept in, its entries, and the states that their records give back.
use Rattle.std.specs.Prelude.{ℕ, ◌-◌, ◌==◌, ◌≤◌, List, [], ◌∷◌, ◌++◌, length, take, drop, reverse, if◌then◌else◌}
use Rattle.rsp_machine.specs.State.{State}
use Rattle.rsp_machine.specs.Undo.{Saved, undone}

-- the records of the last steps, the newest first, and how many there may be
pub record Records : Type 0 where
  pub newest : List Saved
  pub depth : ℕ

-- the entry before an entry, of n
abbrev pub previous_entry : ℕ → ℕ → ℕ
previous_entry n i = if i == 0 then n - 1 else i - 1

-- the members before an entry, the nearest first, round the start
abbrev pub backwards : {X : Type 0} → ℕ → List X → List X
backwards i xs = reverse (take i xs) ++ reverse (drop i xs)

-- and so many of them
abbrev pub entries_before : {X : Type 0} → ℕ → ℕ → List X → List X
entries_before i count xs = take count (backwards i xs)

-- xs has so many members before an entry, which may be the end
abbrev pub IsWithin : {X : Type 0} → ℕ → ℕ → List X → Type 0
IsWithin i count xs = (i ≤ length xs) × (count ≤ length xs)

-- the states before s, by what each step saved, the newest first
abbrev pub states_before : State → List Saved → List State
states_before s [] = []
states_before s (r ∷ rs) = undone r s ∷ states_before (undone r s) rs
