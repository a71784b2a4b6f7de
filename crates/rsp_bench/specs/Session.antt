-- The answers to commands and lines.
use Rattle.std.specs.Prelude.{ℕ, ◌≡◌, ◌+◌, ◌*◌, not, nat_le, nat_lt, List, [], Bool, true, Option, Some, None, is_some, IfSome, Result, Ok, Err, if◌then◌else◌, length}
use Rattle.rsp_commands.specs.declared.command.Command.{Command}
use Rattle.rsp_commands.specs.declared.command.Command.TheVariants.{Nothing, Load, Step, Run, Break, Unbreak, Watch, Unwatch, Back, Read, Write, SetPc, Task, Show, Asm, BlockLine, End}
use Rattle.rsp_commands.specs.declared.command.Look.{Look}
use Rattle.rsp_commands.specs.declared.command.Look.TheVariants.{Regs, Vregs, Acc, Flags, Sp, Mem, Dis}
use Rattle.rsp_commands.specs.declared.fault.LineFault.{LineFault}
use Rattle.rsp_commands.specs.declared.fault.LineFault.TheVariants.{BadCommand}
use Rattle.rsp_script_io.specs.Replies.{Answer}
use Rattle.rsp_commands.specs.Line.{command_of}
use Rattle.rsp_memory.specs.declared.bank.Bank.{Bank}
use Rattle.rsp_memory.specs.declared.bank.Bank.TheVariants.{Imem}
use Rattle.rsp_syntax.specs.declared.fault.AsmFault.{AsmFault}
use Rattle.rsp_syntax.specs.declared.fault.AsmFaultKind.TheVariants.{BadLine}
use Rattle.rsp_syntax.specs.SourceText.{fault_at}
use Rattle.rsp_asm.specs.Block.{OpenBlock, empty_block, with_line, meaning_of_block}
use Rattle.rsp_asm.specs.BlockFault.{hides_no_fault}
use Rattle.rsp_regs.specs.Sp.{read_value}
use Rattle.rsp_machine.specs.State.{State, start_of}
use Rattle.rsp_machine.specs.Step.{step_of}
use Rattle.rsp_machine.specs.Host.{is_inside, with_bank_bytes, register_written, with_pc, task_fault, with_task}
use Rattle.rsp_machine.specs.declared.host.TaskFault.{TaskFault}
use Rattle.rsp_debug.specs.Debugging.{Debugging, debugging_of, after_debugger_step, stop_in, after_run, with_breakpoint, without_breakpoint, with_new_watch, with_watch_dropped, after_back, set_by_host, after_register_read}
use Rattle.rsp_debug.specs.Stops.{is_break}
use Rattle.rsp_debug.specs.Calls.{is_count}
use Rattle.rsp_debug.specs.Queries.{memory_of, listing_of}
use Rattle.rsp_debug.specs.Breaks.{break_fault}
use Rattle.rsp_debug.specs.Watches.{number_for, has_watch}
use Rattle.rsp_debug.specs.declared.breaks.BreakFault.{BreakFault}
use Rattle.rsp_debug.specs.declared.watches.WatchFault.{WatchFault}
use Rattle.rsp_debug.specs.declared.debugger.BackFault.{BackFault}
use Rattle.rsp_debug.specs.declared.debugger.BackFault.TheVariants.{Count, ShortHistory}
use Rattle.rsp_bench.specs.Looks.{registers_text, sp_line, sp_text, dump_text, listing_text, vectors_text, accumulators_text, flags_text}
use Rattle.rsp_bench.specs.Replies.{ok_text, range_text, line_fault_text, task_fault_text, break_fault_text, no_break_text, watch_fault_text, no_watch_text, count_text, back_fault_text, step_text, stop_text, watch_text, words_text, asm_fault_text}
use Rattle.rsp_memory.specs.Words.{words_bytes}

-- a session: what its debugger holds, and the block of source text that is open
pub record SessionState : Type 0 where
  pub debugging : Debugging
  pub block : Option OpenBlock

-- a reply that leaves the session as it was
abbrev pub same : List ℕ → SessionState → Answer SessionState
same text s = record { reply = text; next = s }

-- a reply, and what the debugger holds after the command
abbrev pub then_debugging : List ℕ → Debugging → SessionState → Answer SessionState
then_debugging text d s = record { reply = text; next = record s { debugging = d } }

-- a reply, and the state after the command, which can't be undone: the history is emptied
abbrev pub then_state : List ℕ → State → SessionState → Answer SessionState
then_state text state s = then_debugging text (set_by_host state s.debugging) s

-- ---- the machine

abbrev pub task_answer : Option TaskFault → ℕ → SessionState → Answer SessionState
task_answer None a s = then_state ok_text (with_task a s.debugging.state) s
task_answer (Some fault) a s = same (task_fault_text fault) s

unfoldable pub load_answer : Bank → ℕ → List ℕ → SessionState → Answer SessionState
load_answer bank a bytes s =
    if is_inside bank a (length bytes) s.debugging.state then then_state ok_text (with_bank_bytes bank a bytes s.debugging.state) s
    else same range_text s

unfoldable pub step_answer : SessionState → Answer SessionState
step_answer s =
    let after = after_debugger_step s.debugging in
    then_debugging (step_text (step_of s.debugging.state).0 after.state.pc) after s

abbrev pub read_answer : ℕ → SessionState → Answer SessionState
read_answer n s = then_debugging (sp_line n (read_value n s.debugging.state.sp)) (after_register_read n s.debugging) s

-- ---- the debugger

unfoldable pub run_answer : ℕ → SessionState → Answer SessionState
run_answer n s =
    if is_count n then then_debugging (stop_text (stop_in n s.debugging)) (after_run n s.debugging) s
    else same count_text s

abbrev pub break_answer : Option BreakFault → ℕ → SessionState → Answer SessionState
break_answer None address s = then_debugging ok_text (with_breakpoint address s.debugging) s
break_answer (Some fault) address s = same (break_fault_text fault) s

abbrev pub unbreak_answer : ℕ → SessionState → Answer SessionState
unbreak_answer address s =
    if is_break s.debugging.breaks address then then_debugging ok_text (without_breakpoint address s.debugging) s
    else same no_break_text s

-- a watch of some bytes, with the number that it gets
abbrev pub watch_answer : Result ℕ WatchFault → ℕ → ℕ → SessionState → Answer SessionState
watch_answer (Ok k) a n s = then_debugging (watch_text k) (with_new_watch k a n s.debugging) s
watch_answer (Err fault) a n s = same (watch_fault_text fault) s

abbrev pub unwatch_answer : ℕ → SessionState → Answer SessionState
unwatch_answer k s =
    if has_watch k s.debugging.watches then then_debugging ok_text (with_watch_dropped k s.debugging) s
    else same no_watch_text s

-- why n steps can't be undone; the count comes first
abbrev pub back_fault : ℕ → List State → Option BackFault
back_fault n past =
    if not (is_count n) then Some Count
    else if nat_lt (length past) n then Some ShortHistory
    else None

abbrev pub back_answer : Option BackFault → ℕ → SessionState → Answer SessionState
back_answer None n s = then_debugging ok_text (after_back n s.debugging) s
back_answer (Some fault) n s = same (back_fault_text fault) s

-- ---- looks

abbrev pub memory_text : Bank → ℕ → ℕ → State → List ℕ
memory_text bank a n state = if is_inside bank a n state then dump_text a (memory_of bank state a n) else range_text

abbrev pub dis_text : ℕ → ℕ → State → List ℕ
dis_text address n state = if nat_le (address + 4 * n) 4096 then listing_text (listing_of state address n) else range_text

-- what a look shows
abbrev pub look_text : Look → State → List ℕ
look_text Regs state = registers_text state
look_text Vregs state = vectors_text state.vectors
look_text Acc state = accumulators_text state.accumulators
look_text Flags state = flags_text state.flags state.divider
look_text Sp state = sp_text state.sp
look_text (Mem bank a n) state = memory_text bank a n state
look_text (Dis address n) state = dis_text address n state

-- ---- commands

-- no reply, and the block after the command
abbrev pub with_block : OpenBlock → SessionState → Answer SessionState
with_block b s = record { reply = []; next = record s { block = Some b } }

-- the answer to a command while no block is open
abbrev pub plain_answer : Command → SessionState → Answer SessionState
plain_answer Nothing s = same [] s
plain_answer (Load bank a bytes) s = load_answer bank a bytes.items s
plain_answer Step s = step_answer s
plain_answer (Run n) s = run_answer n s
plain_answer (Break address) s = break_answer (break_fault address s.debugging.breaks) address s
plain_answer (Unbreak address) s = unbreak_answer address s
plain_answer (Watch a n) s = watch_answer (number_for a n s.debugging.watches) a n s
plain_answer (Unwatch k) s = unwatch_answer k s
plain_answer (Back n) s = back_answer (back_fault n s.debugging.past) n s
plain_answer (Read n) s = read_answer n s
plain_answer (Write n value) s = then_state ok_text (register_written n value s.debugging.state) s
plain_answer (SetPc address) s = then_state ok_text (with_pc address s.debugging.state) s
plain_answer (Task a) s = task_answer (task_fault a s.debugging.state.rdram) a s
plain_answer (Show look) s = same (look_text look s.debugging.state) s
plain_answer (Asm address) s = with_block (empty_block address) s
plain_answer (BlockLine line) s = same (line_fault_text BadCommand) s
plain_answer End s = same (line_fault_text BadCommand) s

-- the end of a block: its words go to IMEM, or nothing changes there
abbrev pub end_answer : OpenBlock → Result (List ℕ) AsmFault → SessionState → Answer SessionState
end_answer b (Ok words) s = record {
  reply = words_text (length words);
  next = record { debugging = set_by_host (with_bank_bytes Imem b.origin (words_bytes words) s.debugging.state) s.debugging; block = None };
}
end_answer b (Err fault) s = record { reply = asm_fault_text fault; next = record s { block = None } }

-- the answer to a command while a block is open
abbrev pub block_answer : OpenBlock → Command → SessionState → Answer SessionState
block_answer b (BlockLine line) s = with_block (with_line line b) s
block_answer b End s = end_answer b (meaning_of_block b) s
block_answer b _ s = same (line_fault_text BadCommand) s

abbrev pub answer_in : Option OpenBlock → Command → SessionState → Answer SessionState
answer_in None command s = plain_answer command s
answer_in (Some b) command s = block_answer b command s

-- the answer to a command
unfoldable pub answer_of : Command → SessionState → Answer SessionState
answer_of command s = answer_in s.block command s

-- a command that needs no memory: only a line of an open block and its end may need some
abbrev pub NeedsNoMemory : Command → SessionState → Type 0
NeedsNoMemory (BlockLine line) s = s.block ≡ None
NeedsNoMemory End s = s.block ≡ None
NeedsNoMemory _ s = Unit {0}

-- out of memory for the words of a block, at a line that hides no fault of the text
abbrev pub HidesNoBlockFault : OpenBlock → Type 0
HidesNoBlockFault b = (line : ℕ) × hides_no_fault b line

-- the same, if a command ends a block
abbrev pub EndHidesNoBlockFault : Command → SessionState → Type 0
EndHidesNoBlockFault End s = IfSome s.block HidesNoBlockFault
EndHidesNoBlockFault _ s = Unit {0}

-- a command for which there was no memory: a line of an open block, or its end, which hides no fault of the block
abbrev pub CommandLacksMemory : Command → SessionState → Type 0
CommandLacksMemory command s = (¬ (NeedsNoMemory command s)) × EndHidesNoBlockFault command s

-- whether a block is open
abbrev pub in_block : SessionState → Bool
in_block s = is_some s.block

abbrev pub parsed_answer : Result Command LineFault → SessionState → Answer SessionState
parsed_answer (Ok command) s = answer_of command s
parsed_answer (Err fault) s = same (line_fault_text fault) s

-- the answer to a line
unfoldable pub line_answer : List ℕ → SessionState → Answer SessionState
line_answer line s = parsed_answer (command_of line (in_block s)) s

abbrev pub ParsedLacksMemory : Result Command LineFault → SessionState → Type 0
ParsedLacksMemory (Ok command) s = CommandLacksMemory command s
ParsedLacksMemory (Err fault) s = ⊥

-- a line for which there was no memory: a block is open, and the line is one of it, or its end
unfoldable pub lacks_memory : List ℕ → SessionState → Type 0
lacks_memory line s = (in_block s ≡ true) × ParsedLacksMemory (command_of line (in_block s)) s

-- a block that is still open lacks the line that ends it
abbrev pub end_reply_of : Option OpenBlock → List ℕ
end_reply_of None = []
end_reply_of (Some b) = asm_fault_text (fault_at (length b.lines + 1) BadLine)

-- what is written at the end of a script: a fault if a block is still open, else nothing
abbrev pub end_reply : SessionState → List ℕ
end_reply s = end_reply_of s.block

-- the session at the start: a machine with this image and all else as at its start, no breakpoint, no watch, an empty history
-- that keeps 256 states, and no open block
abbrev pub first_session : List ℕ → SessionState
first_session image = record { debugging = debugging_of 256 (start_of image); block = None }
