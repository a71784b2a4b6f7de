-- Breakpoints.
use Rattle.std.specs.Prelude.{◌/◌, ℕ, List, replicate, slice_set, count_by, Bool, true, false, nat_le, Option, Some, None, if◌then◌else◌}
use Rattle.rsp_debug.specs.Stops.{is_break}
use Rattle.rsp_debug.specs.declared.breaks.BreakFault.{BreakFault}
use Rattle.rsp_debug.specs.declared.breaks.BreakFault.TheVariants.{BreakTwice, BreakFull}

-- Breakpoints are a list of 1024 truth values, one for each word of IMEM in the order of addresses. Without breakpoints:
unfoldable pub no_breaks : List Bool
no_breaks = replicate 1024 false

-- how many there are
abbrev pub break_count : List Bool → ℕ
break_count breaks = count_by (λ has. has) breaks

abbrev pub with_break : ℕ → List Bool → List Bool
with_break address breaks = slice_set breaks (address / 4) true

abbrev pub without_break : ℕ → List Bool → List Bool
without_break address breaks = slice_set breaks (address / 4) false

-- why an address can't get a breakpoint
abbrev pub break_fault : ℕ → List Bool → Option BreakFault
break_fault address breaks =
    if is_break breaks address then Some BreakTwice
    else if nat_le 16 (break_count breaks) then Some BreakFull
    else None
