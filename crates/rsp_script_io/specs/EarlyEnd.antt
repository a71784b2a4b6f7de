-- What was read and written when a run ended early.
use Rattle.std.specs.Prelude.{◌≡◌, ◌≤◌, ℕ, ◌⊎◌, List, ◌++◌, take, drop, length, Option, IfSome, Result, Ok, Err}
use Rattle.std.specs.Io.KnownBytes.{Appends, Consumes, IsAtEnd}
use Rattle.std.specs.Str.Lines.{lines}
use Rattle.rsp_script_io.specs.Feeds.{script_limit}
use Rattle.rsp_script_io.specs.declared.run.RunFault.{RunFault}
use Rattle.rsp_script_io.specs.declared.run.RunFault.TheVariants.{ReadFault, WriteFault, ScriptTooLong, OutOfMemory}
use Rattle.rsp_script_io.specs.Lines.{ended_lines}
use Rattle.rsp_script_io.specs.Replies.{Answer, OfFirst, replies, final, written_of}

-- a prefix of these bytes was written after the old ones, and nothing else
pub record WritesPrefix (old new : Option (List ℕ)) (bytes : List ℕ) : Type 0 where
  pub prefix : List ℕ
  pub others : List ℕ
  pub grows : Appends old new prefix
  pub whole : prefix ++ others ≡ bytes

-- at most n bytes were taken from a source
abbrev pub TakesAtMost : ℕ → Option (List ℕ) → Option (List ℕ) → Type 0
TakesAtMost n rest unread = (taken : List ℕ) × Consumes rest unread taken × (length taken ≤ n)

-- exactly n bytes were taken from a source
abbrev pub Takes : ℕ → Option (List ℕ) → Option (List ℕ) → Type 0
Takes n rest unread = (taken : List ℕ) × Consumes rest unread taken × (length taken ≡ n)

-- A run of a script: the answer to a line, what is written at the end, and what answers the first line; the bytes of the source
-- before and after the run; the bytes of the sink before and after it.
pub record ScriptRun (S : Type 0) : Type 0 where
  pub answer_to : List ℕ → S → Answer S
  pub end_reply : S → List ℕ
  pub session : S
  pub script : Option (List ℕ)
  pub unread : Option (List ℕ)
  pub before : Option (List ℕ)
  pub written : Option (List ℕ)

-- each line that had ended in what was taken was answered in full, and nothing else was written; what was taken is within
-- the limit of a script
pub record EndedLinesWritten {S : Type 0} (r : ScriptRun S) : Type 0 where
  pub taken : List ℕ
  pub told : Consumes r.script r.unread taken
  pub few : length taken ≤ script_limit
  pub written : Appends r.before r.written (replies r.answer_to (ended_lines taken) r.session)

-- a prefix was written of the replies to the lines that had ended in what was taken, as far as it is within the limit of a
-- script; or, if the end of input was met, a prefix of all that is written for it; and nothing else was written
pub record PrefixWritten {S : Type 0} (r : ScriptRun S) : Type 0 where
  pub taken : List ℕ
  pub told : Consumes r.script r.unread taken
  pub prefix : WritesPrefix r.before r.written (replies r.answer_to (ended_lines (take script_limit taken)) r.session)
      ⊎ (IsAtEnd r.unread × WritesPrefix r.before r.written (written_of r.answer_to r.end_reply taken r.session))

-- the replies to the lines that ended within the limit of a script were written in full, and nothing else
abbrev pub LimitWritten : {S : Type 0} → ScriptRun S → Type 0
LimitWritten r = IfSome r.script (λ script. Appends r.before r.written (replies r.answer_to (ended_lines (take script_limit script)) r.session))

-- There was no memory to answer a line: the lines that had ended before it, in a front of what was taken, were answered in full, nothing
-- else was written, and there was none for the next line. It is one that had ended in what was taken, within the limit of a script; or,
-- if the end of input was met, it may be the line that no newline ended.
pub record NoMemoryLeft {S : Type 0} (lacks_memory : List ℕ → S → Type 0) (r : ScriptRun S) : Type 0 where
  pub front : List ℕ
  pub back : List ℕ
  pub told : Consumes r.script r.unread (front ++ back)
  pub few : length front ≤ script_limit
  pub written : Appends r.before r.written (replies r.answer_to (ended_lines front) r.session)
  pub lacks : OfFirst lacks_memory (drop (length (ended_lines front)) (ended_lines (take script_limit (front ++ back)))) (final r.answer_to (ended_lines front) r.session)
      ⊎ (IsAtEnd r.unread × OfFirst lacks_memory (drop (length (ended_lines front)) (lines (front ++ back))) (final r.answer_to (ended_lines front) r.session))

-- what a run that ended early had written, by its fault
abbrev pub LeavesWritten : {A S : Type 0} → Result A RunFault → ScriptRun S → Type 0
LeavesWritten (Ok a) r = Unit {0}
LeavesWritten (Err ReadFault) r = EndedLinesWritten r
LeavesWritten (Err WriteFault) r = PrefixWritten r
LeavesWritten (Err ScriptTooLong) r = LimitWritten r
LeavesWritten (Err OutOfMemory) r = PrefixWritten r
