-- What is refused leaves the session as it was.
use Rattle.std.proofs.Common.{◌≡◌, ◌∙◌, ℕ, List, length, refl, ap, Bool, true, false, Option, Some, None, Result, Ok, Err}
use Rattle.std.specs.Prelude.{if◌then◌else◌}
use Rattle.rsp_commands.specs.declared.command.Command.{Command}
use Rattle.rsp_commands.specs.declared.command.Command.TheVariants.{Nothing, Load, Step, Run, Break, Unbreak, Watch, Unwatch, Back, Read, Write, SetPc, Task, Show, Asm, BlockLine, End}
use Rattle.rsp_commands.specs.declared.fault.LineFault.{LineFault}
use Rattle.rsp_commands.specs.Line.{command_of}
use Rattle.rsp_memory.specs.declared.bank.Bank.{Bank}
use Rattle.rsp_syntax.specs.declared.fault.AsmFault.{AsmFault}
use Rattle.rsp_asm.specs.Block.{OpenBlock, meaning_of_block}
use Rattle.rsp_machine.specs.Host.{is_inside, with_bank_bytes, task_fault}
use Rattle.rsp_machine.specs.declared.host.TaskFault.{TaskFault}
use Rattle.rsp_debug.specs.Stops.{is_break}
use Rattle.rsp_debug.specs.Calls.{is_count}
use Rattle.rsp_debug.specs.Debugging.{stop_in, after_run, without_breakpoint, with_watch_dropped}
use Rattle.rsp_debug.specs.Breaks.{break_fault}
use Rattle.rsp_debug.specs.Watches.{number_for, has_watch}
use Rattle.rsp_debug.specs.declared.breaks.BreakFault.{BreakFault}
use Rattle.rsp_debug.specs.declared.watches.WatchFault.{WatchFault}
use Rattle.rsp_debug.specs.declared.debugger.BackFault.{BackFault}
use Rattle.rsp_script_io.specs.Replies.{Answer}
use Rattle.rsp_bench.specs.Looks.{sp_line}
use Rattle.rsp_bench.specs.Replies.{ok_text, range_text, count_text, stop_text, no_break_text, no_watch_text}
use Rattle.rsp_bench.specs.Session.{SessionState, same, then_debugging, then_state, plain_answer, block_answer, answer_in, answer_of, load_answer, step_answer, read_answer, task_answer, run_answer, break_answer, watch_answer, back_fault, back_answer, end_answer, parsed_answer, line_answer, in_block}
use Rattle.rsp_bench.specs.Refusals.{is_refusal, after_refusal, after_refused_line}

-- an answered that leaves the session as it was, where its reply refuses
abbrev Keeps : Answer SessionState → SessionState → Type 0
Keeps o s = is_refusal o.reply ≡ true → o.next ≡ s

keeps_if : (accepts : Bool) (o : Answer SessionState) (text : List ℕ) (s : SessionState) → is_refusal o.reply ≡ false
    → Keeps (if accepts then o else same text s) s
keeps_if true o text s accepted e = cc
keeps_if false o text s accepted e = refl

keeps_load : (bank : Bank) (a : ℕ) (bytes : List ℕ) (s : SessionState) → Keeps (load_answer bank a bytes s) s
unfolding load_answer
keeps_load bank a bytes s e = keeps_if (is_inside bank a (length bytes) s.debugging.state) (then_state ok_text (with_bank_bytes bank a bytes s.debugging.state) s) range_text s refl e

keeps_step : (s : SessionState) → Keeps (step_answer s) s
unfolding step_answer
keeps_step s e = cc

keeps_read : (n : ℕ) (s : SessionState) → Keeps (read_answer n s) s
unfolding sp_line
keeps_read n s e = cc

keeps_run : (n : ℕ) (s : SessionState) → Keeps (run_answer n s) s
unfolding run_answer
keeps_run n s e = keeps_if (is_count n) (then_debugging (stop_text (stop_in n s.debugging)) (after_run n s.debugging) s) count_text s refl e

keeps_task : (fault : Option TaskFault) (a : ℕ) (s : SessionState) → Keeps (task_answer fault a s) s
keeps_task None a s e = cc
keeps_task (Some fault) a s e = refl

keeps_break : (fault : Option BreakFault) (address : ℕ) (s : SessionState) → Keeps (break_answer fault address s) s
keeps_break None address s e = cc
keeps_break (Some fault) address s e = refl

keeps_watch : (number : Result ℕ WatchFault) (a n : ℕ) (s : SessionState) → Keeps (watch_answer number a n s) s
keeps_watch (Ok k) a n s e = cc
keeps_watch (Err fault) a n s e = refl

keeps_back : (fault : Option BackFault) (n : ℕ) (s : SessionState) → Keeps (back_answer fault n s) s
keeps_back None n s e = cc
keeps_back (Some fault) n s e = refl

keeps_plain : (c : Command) (s : SessionState) → Keeps (plain_answer c s) s
keeps_plain Nothing s e = refl
keeps_plain (Load bank a bytes) s e = keeps_load bank a bytes.items s e
keeps_plain Step s e = keeps_step s e
keeps_plain (Run n) s e = keeps_run n s e
keeps_plain (Break address) s e = keeps_break (break_fault address s.debugging.breaks) address s e
keeps_plain (Unbreak address) s e = keeps_if (is_break s.debugging.breaks address) (then_debugging ok_text (without_breakpoint address s.debugging) s) no_break_text s refl e
keeps_plain (Watch a n) s e = keeps_watch (number_for a n s.debugging.watches) a n s e
keeps_plain (Unwatch k) s e = keeps_if (has_watch k s.debugging.watches) (then_debugging ok_text (with_watch_dropped k s.debugging) s) no_watch_text s refl e
keeps_plain (Back n) s e = keeps_back (back_fault n s.debugging.past) n s e
keeps_plain (Read n) s e = keeps_read n s e
keeps_plain (Write n value) s e = cc
keeps_plain (SetPc address) s e = cc
keeps_plain (Task a) s e = keeps_task (task_fault a s.debugging.state.rdram) a s e
keeps_plain (Show look) s e = refl
keeps_plain (Asm address) s e = cc
keeps_plain (BlockLine line) s e = refl
keeps_plain End s e = refl

-- where no block is open, there is none to close
none_to_close : (c : Command) (s next : SessionState) → s.block ≡ None → next ≡ s → next ≡ after_refusal c s
none_to_close End s next closed e = e ∙ ap (λ b. record s { block = b }) closed
none_to_close _ s next closed e = e

kept_end : (b : OpenBlock) (r : Result (List ℕ) AsmFault) (s : SessionState) → is_refusal (end_answer b r s).reply ≡ true
    → (end_answer b r s).next ≡ after_refusal End s
kept_end b (Ok words) s e = cc
kept_end b (Err fault) s e = refl

kept_block : (b : OpenBlock) (c : Command) (s : SessionState) → is_refusal (block_answer b c s).reply ≡ true → (block_answer b c s).next ≡ after_refusal c s
kept_block b (BlockLine line) s e = cc
kept_block b End s e = kept_end b (meaning_of_block b) s e
kept_block b _ s e = refl

kept_in : (open_block : Option OpenBlock) (c : Command) (s : SessionState) → s.block ≡ open_block → is_refusal (answer_in open_block c s).reply ≡ true
    → (answer_in open_block c s).next ≡ after_refusal c s
kept_in None c s closed e = none_to_close c s _ closed (keeps_plain c s e)
kept_in (Some b) c s closed e = kept_block b c s e

pub refused_commands : (c : Command) (s : SessionState) → is_refusal (answer_of c s).reply ≡ true → (answer_of c s).next ≡ after_refusal c s
unfolding answer_of
refused_commands c s e = kept_in s.block c s refl e

kept_parsed : (r : Result Command LineFault) (s : SessionState) → is_refusal (parsed_answer r s).reply ≡ true
    → (parsed_answer r s).next ≡ after_refused_line r s
kept_parsed (Ok c) s e = refused_commands c s e
kept_parsed (Err fault) s e = refl

pub refused_lines : (line : List ℕ) (s : SessionState) → is_refusal (line_answer line s).reply ≡ true
    → (line_answer line s).next ≡ after_refused_line (command_of line (in_block s)) s
unfolding line_answer
refused_lines line s e = kept_parsed (command_of line (in_block s)) s e
