-- Scaffolding of proofs: the bytes of watches as they were when a run began, with which its loop compares. Stops has the meaning.
use Rattle.std.specs.Prelude.{◌≤◌, ℕ, List, map, position, Bool, false, not, bytes_eq, Option, Some, None, option_map}
use Rattle.rsp_debug.specs.declared.stop.Watch.{Watch}
use Rattle.rsp_debug.specs.declared.snapshot.Snapshot.{Snapshot}
use Rattle.rsp_debug.specs.Stops.{watched}

-- a watch of at most 64 bytes, or none
abbrev pub IsShort : Option Watch → Type 0
IsShort None = Unit {0}
IsShort (Some w) = w.len ≤ 64

-- the watch of a number, if it has one, with its bytes
abbrev pub snapshot_of : List ℕ → Option Watch → Option Snapshot
snapshot_of dmem None = None
snapshot_of dmem (Some w) = Some (record { watch = w; bytes = record { items = watched w dmem } })

-- whether a byte of a watch isn't what it was
abbrev pub is_other : List ℕ → Option Snapshot → Bool
is_other dmem None = false
is_other dmem (Some h) = not (bytes_eq h.bytes.items (watched h.watch dmem))

-- the lowest number of a watch with a byte that isn't what it was
unfoldable pub differs : List (Option Snapshot) → List ℕ → Option ℕ
differs snapshots dmem = position (is_other dmem) snapshots

-- the watches alone
abbrev pub watches_of : List (Option Snapshot) → List (Option Watch)
watches_of snapshots = map (option_map (λ h. h.watch)) snapshots
