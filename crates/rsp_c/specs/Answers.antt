-- What the calls return.
use Rattle.std.specs.Prelude.{ℕ, ◌%◌, ◌==◌, ◌&&◌, nat_lt, Bool, List, Option, None, Some, Result, Ok, Err, if◌then◌else◌}
use Rattle.rsp_machine.specs.declared.step.StepEnd.{StepEnd}
use Rattle.rsp_machine.specs.declared.step.StepEnd.TheVariants as end
use Rattle.rsp_machine.specs.declared.host.TaskFault.{TaskFault}
use Rattle.rsp_machine.specs.declared.host.TaskFault.TheVariants as task
use Rattle.rsp_machine.specs.declared.pass.PassFault.{PassFault}
use Rattle.rsp_machine.specs.declared.pass.PassFault.TheVariants as passing
use Rattle.rsp_memory.specs.declared.bank.Bank.{Bank}
use Rattle.rsp_memory.specs.declared.bank.Bank.TheVariants as bank
use Rattle.rsp_debug.specs.declared.breaks.BreakFault.{BreakFault}
use Rattle.rsp_debug.specs.declared.breaks.BreakFault.TheVariants as breaking
use Rattle.rsp_debug.specs.declared.watches.WatchFault.{WatchFault}
use Rattle.rsp_debug.specs.declared.watches.WatchFault.TheVariants as with_new_watch
use Rattle.rsp_debug.specs.declared.stop.Watch.{Watch}
use Rattle.rsp_debug.specs.declared.moves.Moves.{Moves}
use Rattle.rsp_debug.specs.Breaks.{break_fault}
use Rattle.rsp_debug.specs.Stops.{is_break}
use Rattle.rsp_debug.specs.Watches.{has_watch}
use Rattle.rsp_feed.specs.declared.bench.BenchFault.{BenchFault}
use Rattle.rsp_feed.specs.declared.bench.BenchFault.TheVariants as feeding
use Rattle.rsp_syntax.specs.declared.fault.AsmFaultKind.{AsmFaultKind}
use Rattle.rsp_syntax.specs.declared.fault.AsmFaultKind.TheVariants as fault
use Rattle.rsp_c.specs.declared.status.TheConstants.{OK, NO_MEMORY, OUT_OF_RANGE, HALTED, RESERVED, TASK_PLACE, TASK_SIZE, BREAK_FULL, BREAK_TWICE, NO_BREAK, WATCH_FULL, NO_WATCH, ENDED, TOO_LONG, OTHER_WORD}

-- a step: done, halted, or at a reserved word
abbrev pub step_status : StepEnd → ℕ
step_status end.Done = OK
step_status end.Halted = HALTED
step_status (end.Reserved word) = RESERVED

-- passing the word at pc: it is no transfer, or the machine is halted
abbrev pub pass_fault_status : PassFault → ℕ
pass_fault_status passing.Halted = HALTED
pass_fault_status passing.OtherWord = OTHER_WORD

abbrev pub pass_status : {X : Type 0} → Result X PassFault → ℕ
pass_status (Ok x) = OK
pass_status (Err f) = pass_fault_status f

-- the moves of two masks
abbrev pub moves_from_c : ℕ → ℕ → Moves
moves_from_c reads writes = record { reads = reads; writes = writes }

-- the bank of a number
abbrev pub bank_of : ℕ → Option Bank
bank_of n = if n == 0 then Some bank.Dmem else if n == 1 then Some bank.Imem else if n == 2 then Some bank.Rdram else None

-- whether it is the address of a word of IMEM
abbrev pub is_imem_address : ℕ → Bool
is_imem_address n = nat_lt n 4096 && n % 4 == 0

-- a new pc
abbrev pub address_status : ℕ → ℕ
address_status address = if is_imem_address address then OK else OUT_OF_RANGE

-- a task's start
abbrev pub task_status : Option TaskFault → ℕ
task_status None = OK
task_status (Some task.TaskPlace) = TASK_PLACE
task_status (Some task.TaskSize) = TASK_SIZE

-- a new breakpoint
abbrev pub break_fault_status : Option BreakFault → ℕ
break_fault_status None = OK
break_fault_status (Some breaking.BreakFull) = BREAK_FULL
break_fault_status (Some breaking.BreakTwice) = BREAK_TWICE

abbrev pub add_break_status : ℕ → List Bool → ℕ
add_break_status address breaks = if is_imem_address address then break_fault_status (break_fault address breaks) else OUT_OF_RANGE

-- a breakpoint that is dropped
abbrev pub drop_break_status : ℕ → List Bool → ℕ
drop_break_status address breaks = if is_imem_address address then (if is_break breaks address then OK else NO_BREAK) else OUT_OF_RANGE

-- a new watch
abbrev pub add_watch_status : Result ℕ WatchFault → ℕ
add_watch_status (Ok k) = OK
add_watch_status (Err with_new_watch.WatchRange) = OUT_OF_RANGE
add_watch_status (Err with_new_watch.WatchFull) = WATCH_FULL

-- a watch that is dropped
abbrev pub drop_watch_status : ℕ → List (Option Watch) → ℕ
drop_watch_status k watches = if has_watch k watches then OK else NO_WATCH

-- a bench that refuses
abbrev pub bench_fault_status : BenchFault → ℕ
bench_fault_status feeding.Ended = ENDED
bench_fault_status feeding.ScriptTooLong = TOO_LONG
bench_fault_status feeding.OutOfMemory = NO_MEMORY

-- the number of a fault of a text
abbrev pub fault_number : AsmFaultKind → ℕ
fault_number fault.BadLine = 10
fault_number fault.UnknownName = 11
fault_number fault.BadOperand = 12
fault_number fault.OutOfRange = 13
fault_number fault.LabelTwice = 14
fault_number fault.LabelMissing = 15
fault_number fault.PastEnd = 16
fault_number fault.OutOfMemory = 17
