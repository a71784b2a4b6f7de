-- The next event of a run, as C sees it: a stop, a move of an SP register, or a DMA.
use Rattle.std.specs.Prelude.{ℕ, ◌+◌, ◌%◌, ◌==◌, bit_or, Bool, false, not, ◌&&◌, nat_le, if◌then◌else◌, Option, None, is_some, unwrap_or}
use Rattle.rsp_regs.specs.Sp.{Sp, read_value}
use Rattle.rsp_regs.specs.Described.{no_dma, described}
use Rattle.rsp_regs.specs.declared.dma.Dma.{Dma}
use Rattle.rsp_machine.specs.State.{State}
use Rattle.rsp_debug.specs.declared.moves.Moves.{Moves}
use Rattle.rsp_debug.specs.declared.moves.MoveEnd.{MoveEnd}
use Rattle.rsp_debug.specs.declared.moves.MoveEnd.TheVariants as end
use Rattle.rsp_debug.specs.declared.stop.Reason.TheVariants as why
use Rattle.rsp_debug.specs.declared.stop.Reason.{Reason}
use Rattle.rsp_debug.specs.Moves.{is_limit, end_steps}
use Rattle.rsp_debug.specs.Debugging.{Debugging, stop_in, after_run, move_end_in, after_run_until_move}
use Rattle.rsp_c.specs.declared.event.RspReached.{RspReached}
use Rattle.rsp_c.specs.ToC.{bit, c_move}

-- whether a mask has bit 16, which asks for the writes of SP_STATUS
abbrev pub asks_status : ℕ → Bool
asks_status writes = nat_le 65536 writes

-- the moves of two masks; each write of a length register, whose bits are 4 and 8; if asked, each write of SP_STATUS, whose bit is 16
abbrev pub event_moves : ℕ → ℕ → Moves
event_moves reads writes = record { reads = reads; writes = bit_or (writes % 65536) (if asks_status writes then 28 else 12) }

-- the end of a run of at most n steps: if all of them are made, a move that is next isn't reported
abbrev pub event_end : ℕ → MoveEnd → MoveEnd
event_end n (end.Stop stop) = end.Stop stop
event_end n (end.Move steps pc r writes value) =
    if steps == n then end.Stop (record { reason = why.Limit; steps = steps; pc = pc }) else end.Move steps pc r writes value

-- the DMA before which a run ended, if it ended before one
abbrev pub dma_at : MoveEnd → Sp → Option Dma
dma_at (end.Stop stop) s = None
dma_at (end.Move steps pc r writes value) s = if writes then described r value s else None

-- what a run reached that ended so in a state; before a DMA the reason is 6
abbrev pub c_reached : MoveEnd → State → RspReached
c_reached e s = let m = c_move e s.imem in let found = dma_at e s.sp in record {
  at = record m { stop = record m.stop { reason = if is_some found then 6 else m.stop.reason } };
  dma = unwrap_or found no_dma;
  status = read_value 4 s.sp;
  interrupt = bit s.sp.interrupt;
}

-- whether a run ended before a write of SP_STATUS
abbrev pub is_status_write : MoveEnd → Bool
is_status_write (end.Stop stop) = false
is_status_write (end.Move steps pc r writes value) = writes && r == 4

-- The reason after the step that wrote SP_STATUS, by the interrupt flag before and after it. If a run of that step alone has another reason
-- to stop than its limit it is that, else 7 if the step raised the interrupt, else 8.
abbrev pub status_reason : Reason → ℕ → Bool → Bool → ℕ
status_reason why number before now = if is_limit why then (if now && not before then 7 else 8) else number

-- what a run of k steps reaches by the step that writes SP_STATUS, which the machine can make
abbrev pub c_after_status : ℕ → Debugging → RspReached
c_after_status k d =
    let stop = stop_in 1 d in let t = (after_run 1 d).state in
    let r = c_reached (end.Stop (record stop { steps = k + 1 })) t in
    record r { at = record r.at { stop = record r.at.stop { reason = status_reason stop.reason r.at.stop.reason d.state.sp.interrupt t.sp.interrupt } } }

-- where a run ends before the next event, and the debugger there
abbrev pub end_in : ℕ → ℕ → ℕ → Debugging → MoveEnd
end_in n reads writes d = event_end n (move_end_in n (event_moves reads writes) d)

abbrev pub before_event : ℕ → ℕ → ℕ → Debugging → Debugging
before_event n reads writes d = after_run_until_move n (event_moves reads writes) d

-- what a run reaches, which makes the step of a write of SP_STATUS if it is asked for
abbrev pub event_of : ℕ → ℕ → ℕ → Debugging → RspReached
event_of n reads writes d =
    let e = end_in n reads writes d in let before = before_event n reads writes d in
    if asks_status writes && is_status_write e then c_after_status (end_steps e) before else c_reached e before.state

-- the debugger after it
abbrev pub after_event : ℕ → ℕ → ℕ → Debugging → Debugging
after_event n reads writes d =
    let before = before_event n reads writes d in
    if asks_status writes && is_status_write (end_in n reads writes d) then after_run 1 before else before
