-- A run of a script: what is written, and how it ends.
use Rattle.std.specs.Prelude.{◌≡◌, ◌⊎◌, ℕ, List, Result, Ok, Err}
use Rattle.std.specs.Str.Lines.{lines}
use Rattle.rsp_script_io.specs.Replies.{final, written_of}
use Rattle.rsp_script_io.specs.EarlyEnd.{ScriptRun, NoMemoryLeft}
use Rattle.rsp_script_io.specs.declared.run.RunFault.{RunFault}
use Rattle.rsp_script_io.specs.declared.run.RunFault.TheVariants as faults
use Rattle.rsp_bench.specs.Session.{SessionState, line_answer, end_reply, first_session, lacks_memory}
use Rattle.rsp_bench.specs.declared.run.BenchEnd.{BenchEnd}
use Rattle.rsp_bench.specs.declared.run.BenchEnd.TheVariants.{Finished, ReadFault, WriteFault, ScriptTooLong, OutOfMemory}

-- all that is written for a script: the replies to its lines, each in the session that the lines before it left, and what is
-- written at its end
abbrev pub out_of : List ℕ → List ℕ → List ℕ
out_of script image = written_of line_answer end_reply script (first_session image)

-- the session that the lines of a script leave
abbrev pub session_of : List ℕ → List ℕ → SessionState
session_of script image = final line_answer (lines script) (first_session image)

-- how a run ended, as `answer_script` reports it: the session of a finished run, else the fault
abbrev pub outcome : BenchEnd → Result SessionState RunFault
outcome (Finished s) = Ok s
outcome ReadFault = Err faults.ReadFault
outcome WriteFault = Err faults.WriteFault
outcome ScriptTooLong = Err faults.ScriptTooLong
outcome OutOfMemory = Err faults.OutOfMemory

-- p of the session, if the run finished
abbrev pub IfFinished : BenchEnd → (SessionState → Type 0) → Type 0
IfFinished (Finished s) p = p s
IfFinished ReadFault p = Unit {0}
IfFinished WriteFault p = Unit {0}
IfFinished ScriptTooLong p = Unit {0}
IfFinished OutOfMemory p = Unit {0}

-- why a run is out of memory: there was none for the session, and nothing was read or written; or there was none to answer a line, before
-- which a block was open
abbrev pub LacksMemory : ScriptRun SessionState → Type 0
LacksMemory r = ((r.unread ≡ r.script) × (r.written ≡ r.before)) ⊎ NoMemoryLeft lacks_memory r
