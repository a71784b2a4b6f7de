-- The texts of replies.
use Rattle.std.specs.Prelude.{ℕ, List, ◌∷◌, [], ◌++◌, codes, decimal}
use Rattle.rsp_commands.specs.declared.fault.LineFault.{LineFault}
use Rattle.rsp_commands.specs.Faults.{line_fault_name}
use Rattle.rsp_machine.specs.declared.step.StepEnd.{StepEnd}
use Rattle.rsp_machine.specs.declared.step.StepEnd.TheVariants.{Done, Halted, Reserved}
use Rattle.rsp_machine.specs.declared.host.TaskFault.{TaskFault}
use Rattle.rsp_debug.specs.declared.breaks.BreakFault.{BreakFault}
use Rattle.rsp_debug.specs.declared.watches.WatchFault.{WatchFault}
use Rattle.rsp_debug.specs.declared.debugger.BackFault.{BackFault}
use Rattle.rsp_debug.specs.declared.stop.Reason.{Reason}
use Rattle.rsp_debug.specs.declared.stop.Reason.TheVariants as reasons
use Rattle.rsp_debug.specs.declared.stop.Stop.{Stop}
use Rattle.rsp_syntax.specs.declared.fault.AsmFault.{AsmFault}
use Rattle.rsp_syntax.specs.Faults.{kind_name}
use Rattle.rsp_script_io.specs.Text.{hex_text}
use Rattle.rsp_bench.specs.Faults.{range_name, task_fault_name, break_fault_name, no_break_name, watch_fault_name, no_watch_name, count_name, back_fault_name}

-- a line of a reply
abbrev pub line_of : List ℕ → List ℕ
line_of text = text ++ 10 ∷ []

abbrev pub ok_text : List ℕ
ok_text = line_of (codes "ok")

-- the line of a fault, by its number and its name
abbrev pub fault_line : List ℕ → List ℕ
fault_line name = line_of (codes "fault " ++ name)

abbrev pub range_text : List ℕ
range_text = fault_line range_name

abbrev pub line_fault_text : LineFault → List ℕ
line_fault_text fault = fault_line (line_fault_name fault)

abbrev pub task_fault_text : TaskFault → List ℕ
task_fault_text fault = fault_line (task_fault_name fault)

abbrev pub break_fault_text : BreakFault → List ℕ
break_fault_text fault = fault_line (break_fault_name fault)

abbrev pub no_break_text : List ℕ
no_break_text = fault_line no_break_name

abbrev pub watch_fault_text : WatchFault → List ℕ
watch_fault_text fault = fault_line (watch_fault_name fault)

abbrev pub no_watch_text : List ℕ
no_watch_text = fault_line no_watch_name

abbrev pub count_text : List ℕ
count_text = fault_line count_name

abbrev pub back_fault_text : BackFault → List ℕ
back_fault_text fault = fault_line (back_fault_name fault)

abbrev pub end_text : StepEnd → List ℕ
end_text Done = codes "Done"
end_text Halted = codes "Halted"
end_text (Reserved word) = codes "Reserved " ++ hex_text 8 word

-- how a step ended, and pc after it
abbrev pub step_text : StepEnd → ℕ → List ℕ
step_text end pc = line_of (codes "step " ++ end_text end ++ codes " pc " ++ hex_text 3 pc)

abbrev pub reason_text : Reason → List ℕ
reason_text reasons.Reserved = codes "Reserved"
reason_text reasons.Halted = codes "Halted"
reason_text (reasons.Watched k) = codes "Watch " ++ decimal k
reason_text reasons.Break = codes "Break"
reason_text reasons.Limit = codes "Limit"

-- why a run stopped, how many steps it made, and pc after it
abbrev pub stop_text : Stop → List ℕ
stop_text stop =
    line_of (codes "stop " ++ reason_text stop.reason ++ codes " steps " ++ decimal stop.steps ++ codes " pc " ++ hex_text 3 stop.pc)

-- the number of a new watch
abbrev pub watch_text : ℕ → List ℕ
watch_text k = line_of (codes "ok watch " ++ decimal k)

-- how many words a block has
abbrev pub words_text : ℕ → List ℕ
words_text n = line_of (codes "ok " ++ decimal n ++ codes " words")

-- why a block has no words, and the number of the line in the block
abbrev pub asm_fault_text : AsmFault → List ℕ
asm_fault_text fault = line_of (codes "fault " ++ kind_name fault.kind ++ codes " line " ++ decimal fault.line)
