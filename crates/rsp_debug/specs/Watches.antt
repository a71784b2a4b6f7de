-- Watches.
use Rattle.std.specs.Prelude.{◌+◌, ℕ, List, replicate, slice_set, slice_index_or, position, is_none, is_some, Bool, ◌&&◌, nat_le, Option, Some, None, Result, Ok, Err, if◌then◌else◌}
use Rattle.rsp_debug.specs.declared.stop.Watch.{Watch}
use Rattle.rsp_debug.specs.declared.watches.WatchFault.{WatchFault}
use Rattle.rsp_debug.specs.declared.watches.WatchFault.TheVariants.{WatchRange, WatchFull}

-- Watches are a list with the watch of each number from 0 to 7. Without watches:
abbrev pub no_watches : List (Option Watch)
no_watches = replicate 8 None

-- whether a watch is 1 to 64 bytes inside DMEM
abbrev pub is_watchable : ℕ → ℕ → Bool
is_watchable address len = nat_le 1 len && nat_le len 64 && nat_le (address + len) 4096

-- the lowest number that has no watch
abbrev pub free_number : List (Option Watch) → Option ℕ
free_number watches = position is_none watches

abbrev pub number_or_full : Option ℕ → Result ℕ WatchFault
number_or_full None = Err WatchFull
number_or_full (Some k) = Ok k

-- the number that a new watch gets, or why it gets none
abbrev pub number_for : ℕ → ℕ → List (Option Watch) → Result ℕ WatchFault
number_for address len watches =
    if is_watchable address len then number_or_full (free_number watches) else Err WatchRange

abbrev pub with_watch : ℕ → ℕ → ℕ → List (Option Watch) → List (Option Watch)
with_watch k address len watches = slice_set watches k (Some (record { address = address; len = len }))

abbrev pub has_watch : ℕ → List (Option Watch) → Bool
has_watch k watches = is_some (slice_index_or watches k None)

abbrev pub without_watch : ℕ → List (Option Watch) → List (Option Watch)
without_watch k watches = slice_set watches k None
