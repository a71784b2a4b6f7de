-- What a run does to the source of its script and the sink of its replies, by how it ended.
use Rattle.std.specs.Prelude.{◌≡◌, ◌+◌, ◌<◌, ℕ, List, length, Option, IfSome, Result, Ok, Err, IsErrOf}
use Rattle.rsp_script_io.specs.EarlyEnd.{TakesAtMost, Takes}
use Rattle.rsp_script_io.specs.Faults.{failed_reads, failed_writes}
use Rattle.rsp_script_io.specs.Feeds.{script_limit}
use Rattle.rsp_script_io.specs.declared.run.RunFault.{RunFault}
use Rattle.rsp_script_io.specs.declared.run.RunFault.TheVariants.{ReadFault, WriteFault, ScriptTooLong, OutOfMemory}
use Rattle.rsp_cli_files.specs.declared.fault.Fault.{Fault}
use Rattle.rsp_cli_files.specs.declared.fault.Fault.TheVariants as faults

-- how a run ended early if this is the fault of the program; it finished if the fault came before it or after it
abbrev pub early_end : Fault → Result (Unit {0}) RunFault
early_end faults.RunRead = Err ReadFault
early_end faults.RunWrite = Err WriteFault
early_end faults.ScriptTooLong = Err ScriptTooLong
early_end faults.RunOutOfMemory = Err OutOfMemory
early_end fault = Ok tt

-- how a run ended, by what the program makes of it
abbrev pub run_end : Result (Unit {0}) Fault → Result (Unit {0}) RunFault
run_end (Ok done) = Ok tt
run_end (Err fault) = early_end fault

-- the same of what a runner returns, without what the run left
abbrev pub end_of : {A : Type 0} → Result A RunFault → Result (Unit {0}) RunFault
end_of (Ok left) = Ok tt
end_of (Err fault) = Err fault

-- what contracts see of a run's streams: how many reads and writes have failed, and the bytes that the source has left
pub record Streams : Type 0 where
  pub read_faults : ℕ
  pub write_faults : ℕ
  pub unread : Option (List ℕ)

abbrev pub streams_of : {R W : Type 0} → (R → ℕ) → (R → Option (List ℕ)) → (W → ℕ) → R → W → Streams
streams_of read_faults rest write_faults source sink = record { read_faults = read_faults source; write_faults = write_faults sink; unread = rest source }

-- A run that ended so has counted the read or the write that ended it, and no other; too long is only a script of more bytes than the limit,
-- of which it has taken one byte more than the limit; and no run takes more.
pub record RunsOver (ended : Result (Unit {0}) RunFault) (before after : Streams) : Type 0 where
  pub reads : after.read_faults ≡ before.read_faults + failed_reads ended
  pub writes : after.write_faults ≡ before.write_faults + failed_writes ended
  pub long : IfSome before.unread (λ script. IsErrOf ended ScriptTooLong → script_limit < length script)
  pub past : IsErrOf ended ScriptTooLong → Takes (script_limit + 1) before.unread after.unread
  pub few : TakesAtMost (script_limit + 1) before.unread after.unread
