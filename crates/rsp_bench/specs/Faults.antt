-- The numbers and names of the faults of commands.
use Rattle.std.specs.Prelude.{ℕ, List, codes}
use Rattle.rsp_machine.specs.declared.host.TaskFault.{TaskFault}
use Rattle.rsp_machine.specs.declared.host.TaskFault.TheVariants.{TaskPlace, TaskSize}
use Rattle.rsp_debug.specs.declared.breaks.BreakFault.{BreakFault}
use Rattle.rsp_debug.specs.declared.breaks.BreakFault.TheVariants.{BreakTwice, BreakFull}
use Rattle.rsp_debug.specs.declared.watches.WatchFault.{WatchFault}
use Rattle.rsp_debug.specs.declared.watches.WatchFault.TheVariants.{WatchRange, WatchFull}
use Rattle.rsp_debug.specs.declared.debugger.BackFault.{BackFault}
use Rattle.rsp_debug.specs.declared.debugger.BackFault.TheVariants.{Count, ShortHistory}

abbrev pub task_fault_name : TaskFault → List ℕ
task_fault_name TaskPlace = codes "4 TaskPlace"
task_fault_name TaskSize = codes "5 TaskSize"

abbrev pub range_name : List ℕ
range_name = codes "6 RangeFault"

abbrev pub break_fault_name : BreakFault → List ℕ
break_fault_name BreakFull = codes "20 BreakFull"
break_fault_name BreakTwice = codes "21 BreakTwice"

abbrev pub no_break_name : List ℕ
no_break_name = codes "22 NoBreak"

abbrev pub watch_fault_name : WatchFault → List ℕ
watch_fault_name WatchFull = codes "23 WatchFull"
watch_fault_name WatchRange = codes "25 WatchRange"

abbrev pub no_watch_name : List ℕ
no_watch_name = codes "24 NoWatch"

abbrev pub count_name : List ℕ
count_name = codes "26 Count"

abbrev pub back_fault_name : BackFault → List ℕ
back_fault_name Count = count_name
back_fault_name ShortHistory = codes "27 ShortHistory"
