-- Where a run ends that also ends before moves.
use Rattle.std.specs.Prelude.{ℕ, List, Bool, true, false, not, ◌&&◌, ◌==◌, Option, Some, if◌then◌else◌}
use Rattle.std.specs.Int.{bit_at}
use Rattle.rsp_memory.specs.Memory.{word_at}
use Rattle.rsp_decode.specs.declared.inst.Inst.{Inst}
use Rattle.rsp_decode.specs.declared.inst.Inst.TheVariants.{MoveSp}
use Rattle.rsp_decode.specs.Table.{inst_of}
use Rattle.rsp_scalar.specs.Registers.{register}
use Rattle.rsp_machine.specs.State.{State}
use Rattle.rsp_machine.specs.Pass.{is_write}
use Rattle.rsp_machine.specs.Laws.{steps_of}
use Rattle.rsp_debug.specs.declared.stop.Watch.{Watch}
use Rattle.rsp_debug.specs.declared.stop.Reason.{Reason}
use Rattle.rsp_debug.specs.declared.stop.Reason.TheVariants.{Limit}
use Rattle.rsp_debug.specs.declared.stop.Stop.{Stop}
use Rattle.rsp_debug.specs.declared.moves.Moves.{Moves}
use Rattle.rsp_debug.specs.declared.moves.MoveEnd.{MoveEnd}
use Rattle.rsp_debug.specs.declared.moves.MoveEnd.TheVariants as end
use Rattle.rsp_debug.specs.Stops.{least, stop_of}

-- no move
abbrev pub no_moves : Moves
no_moves = record { reads = 0; writes = 0 }

-- whether an instruction is one of some moves: an MFC0 from SP register r by bit r of `reads`, an MTC0 to it by bit r of `writes`
abbrev pub is_asked : Moves → Option Inst → Bool
is_asked moves (Some (MoveSp op rt r)) = bit_at (if is_write op then moves.writes else moves.reads) r == 1
is_asked moves _ = false

-- whether a machine isn't halted and executes such a move next
abbrev pub is_at_move : Moves → State → Bool
is_at_move moves s = not s.sp.halted && is_asked moves (inst_of (word_at s.imem s.pc))

-- how many of n steps it takes until one is next; n if none comes
unfoldable pub steps_to_move : Moves → ℕ → State → ℕ
steps_to_move moves n s = least (λ k. is_at_move moves (steps_of k s)) n

-- the move that an instruction is, of a run that stopped there
abbrev pub move_by : Option Inst → Stop → State → MoveEnd
move_by (Some (MoveSp op rt r)) stop s = end.Move stop.steps stop.pc r (is_write op) (register s.registers rt)
move_by _ stop s = end.Stop stop

-- the reason that comes after all others
abbrev pub is_limit : Reason → Bool
is_limit Limit = true
is_limit _ = false

-- how a run ends that stopped in a state and went no further than to a move
abbrev pub end_by : Moves → Stop → State → MoveEnd
end_by moves stop s =
    if is_limit stop.reason && is_at_move moves s then move_by (inst_of (word_at s.imem s.pc)) stop s else end.Stop stop

-- Where a run of at most n steps ends that also ends before moves. It stops as a run does that goes no further than to the first
-- such move. If it has no other reason to stop there, it ends before the move.
unfoldable pub move_end_of : List Bool → List (Option Watch) → Moves → ℕ → State → MoveEnd
move_end_of breaks watches moves n s =
    let stop = stop_of breaks watches (steps_to_move moves n s) s in
    end_by moves stop (steps_of stop.steps s)

-- how many steps it made
abbrev pub end_steps : MoveEnd → ℕ
end_steps (end.Stop stop) = stop.steps
end_steps (end.Move steps pc r writes value) = steps
