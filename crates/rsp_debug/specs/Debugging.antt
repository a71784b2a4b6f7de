-- A debugger, and what its calls make of it.
use Rattle.std.specs.Prelude.{ℕ, zero, suc, ◌-◌, ◌%◌, ◌==◌, List, [], drop, slice_index_or, Bool, Option, if◌then◌else◌}
use Rattle.rsp_machine.specs.State.{State}
use Rattle.rsp_machine.specs.Step.{step_of}
use Rattle.rsp_machine.specs.Host.{register_read}
use Rattle.rsp_debug.specs.declared.stop.Watch.{Watch}
use Rattle.rsp_debug.specs.declared.stop.Stop.{Stop}
use Rattle.rsp_debug.specs.Stops.{run_steps, stop_of}
use Rattle.rsp_debug.specs.declared.moves.Moves.{Moves}
use Rattle.rsp_debug.specs.declared.moves.MoveEnd.{MoveEnd}
use Rattle.rsp_debug.specs.Moves.{steps_to_move, move_end_of}
use Rattle.rsp_debug.specs.History.{history_after}
use Rattle.rsp_debug.specs.Breaks.{no_breaks, with_break, without_break}
use Rattle.rsp_debug.specs.Watches.{no_watches, with_watch, without_watch}

-- The state of the machine; for each word of IMEM whether it has a breakpoint; the watches of the numbers 0 to 7; the states of the
-- history, the newest first; how many of them are kept at most.
pub record Debugging : Type 0 where
  pub state : State
  pub breaks : List Bool
  pub watches : List (Option Watch)
  pub past : List State
  pub depth : ℕ

-- a machine without breakpoints and watches, and with an empty history
abbrev pub debugging_of : ℕ → State → Debugging
debugging_of depth s = record { state = s; breaks = no_breaks; watches = no_watches; past = []; depth = depth }

-- after one step of the machine, whatever it returns
abbrev pub after_debugger_step : Debugging → Debugging
after_debugger_step d = record d { state = (step_of d.state).1; past = history_after d.depth d.state d.past }

-- after n steps
unfoldable pub after_steps : ℕ → Debugging → Debugging
after_steps zero d = d
after_steps (suc n) d = after_debugger_step (after_steps n d)

-- where a run of at most n steps stops
abbrev pub stop_in : ℕ → Debugging → Stop
stop_in n d = stop_of d.breaks d.watches n d.state

-- after such a run, which fills the history as its steps do
abbrev pub after_run : ℕ → Debugging → Debugging
after_run n d = after_steps (run_steps d.breaks d.watches n d.state) d

-- where a run of at most n steps ends that also ends before moves
abbrev pub move_end_in : ℕ → Moves → Debugging → MoveEnd
move_end_in n moves d = move_end_of d.breaks d.watches moves n d.state

-- after such a run
abbrev pub after_run_until_move : ℕ → Moves → Debugging → Debugging
after_run_until_move n moves d = after_run (steps_to_move moves n d.state) d

-- with one breakpoint more, or less
abbrev pub with_breakpoint : ℕ → Debugging → Debugging
with_breakpoint address d = record d { breaks = with_break address d.breaks }

abbrev pub without_breakpoint : ℕ → Debugging → Debugging
without_breakpoint address d = record d { breaks = without_break address d.breaks }

-- with one watch more, or less
abbrev pub with_new_watch : ℕ → ℕ → ℕ → Debugging → Debugging
with_new_watch k address len d = record d { watches = with_watch k address len d.watches }

abbrev pub with_watch_dropped : ℕ → Debugging → Debugging
with_watch_dropped k d = record d { watches = without_watch k d.watches }

-- after n steps back, at least one: state n of the history, which leaves it with the newer ones
abbrev pub after_back : ℕ → Debugging → Debugging
after_back n d = record d { state = slice_index_or d.past (n - 1) d.state; past = drop n d.past }

-- with a state that the host set: no step led there, so the history is empty
abbrev pub set_by_host : State → Debugging → Debugging
set_by_host s d = record d { state = s; past = [] }

-- after a read of SP register n, modulo 16: that of the semaphore empties the history
abbrev pub after_register_read : ℕ → Debugging → Debugging
after_register_read n d = record d { state = register_read n d.state; past = if n % 16 == 7 then [] else d.past }
