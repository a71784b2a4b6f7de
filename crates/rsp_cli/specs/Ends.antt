-- How the program ends, and what it has done then.
use Rattle.std.specs.Prelude.{◌≡◌, ◌≢◌, ◌⊎◌, ℕ, List, length, Bool, true, false, Option, None, IfSome, option_map, Result, Ok, Err}
use Rattle.rsp_cli_args.specs.declared.Request.{Request}
use Rattle.rsp_cli_args.specs.declared.Request.TheVariants.{Run, Assemble, Disassemble}
use Rattle.rsp_cli.specs.declared.status.Status.{Status}
use Rattle.rsp_cli.specs.declared.status.Status.TheVariants.{Done, Faulted, Refused}
use Rattle.rsp_script_io.specs.declared.run.RunFault.{RunFault}
use Rattle.rsp_script_io.specs.declared.run.RunFault.TheVariants.{ReadFault, WriteFault, ScriptTooLong, OutOfMemory}
use Rattle.rsp_cli_files.specs.declared.files.FileFault.{FileFault}
use Rattle.rsp_cli_files.specs.Files.{SameFiles}
use Rattle.rsp_cli_files.specs.Overwriting.{overwrites}
use Rattle.rsp_cli_files.specs.Words.{origin_of, IsAssembled, IsDisassembled, IsAssembleFault, IsDisassembleFault}
use Rattle.rsp_cli.specs.Runs.{IsAnswered, IsRequestFault, LeavesFiles}
use Rattle.rsp_cli_files.specs.declared.fault.Fault.{Fault}
use Rattle.rsp_cli_files.specs.declared.fault.Fault.TheVariants as faults

-- the number that the process ends with
abbrev pub status_code : Status → ℕ
status_code Done = 0
status_code Faulted = 1
status_code Refused = 2

-- the value of `--at` in a command line
abbrev pub at_of : Request → Option (List ℕ)
at_of (Run asked) = None
at_of (Assemble asked) = option_map (λ t. t.now) asked.at
at_of (Disassemble asked) = option_map (λ t. t.now) asked.at

-- the status after work that was requested: a command line that is refused was refused before
abbrev pub ended_status : Result (Unit {0}) Fault → Status
ended_status (Ok _) = Done
ended_status (Err fault) = Faulted

-- the fault with which the program ends when a run ended early
abbrev pub fault_of_run : RunFault → Fault
fault_of_run ReadFault = faults.RunRead
fault_of_run WriteFault = faults.RunWrite
fault_of_run ScriptTooLong = faults.ScriptTooLong
fault_of_run OutOfMemory = faults.RunOutOfMemory

-- What the names of files lead to, before and after the work, and the bytes of the streams: what the input has left before it, and what the
-- output holds before and after it.
pub record Work : Type 0 where
  pub before : List ℕ → Option (Result (List ℕ) FileFault)
  pub after : List ℕ → Option (Result (List ℕ) FileFault)
  pub input : Option (List ℕ)
  pub output : Option (List ℕ)
  pub written : Option (List ℕ)

-- a request that is done, where a script is answered with these replies, and leaves this image
abbrev pub IsFulfilled : (out image_after : List ℕ → List ℕ → List ℕ) → Request → Work → Type 0
IsFulfilled out image_after (Run asked) w = IsAnswered out image_after asked w.before w.after w.input w.output w.written
IsFulfilled out image_after (Assemble asked) w = IsAssembled asked w.before w.after w.output w.written
IsFulfilled out image_after (Disassemble asked) w = IsDisassembled asked w.before w.after w.output w.written

-- a request that failed, why, and that no file has changed, except by a strict run that was refused for its replies, and by an assembly
-- whose words are saved, but whose listing can't be written
abbrev pub IsFailed : Request → Work → Fault → Type 0
IsFailed (Run asked) w fault = IsRequestFault (option_map (λ t. t.now) asked.script) asked w.before fault × LeavesFiles asked.is_strict w.before w.after fault
IsFailed (Assemble asked) w fault = IsAssembleFault (option_map (λ t. t.now) asked.at) asked.source.now asked.out.now (w.before asked.source.now) fault
    × ((fault ≡ faults.RunWrite) ⊎ SameFiles w.before w.after)
IsFailed (Disassemble asked) w fault = IsDisassembleFault (option_map (λ t. t.now) asked.at) asked.words.now (w.before asked.words.now) fault
    × SameFiles w.before w.after

-- what becomes of a request: it is done, or it failed
abbrev pub IsWork : (out image_after : List ℕ → List ℕ → List ℕ) → Request → Work → Result (Unit {0}) Fault → Type 0
IsWork out image_after asked w (Ok done) = IsFulfilled out image_after asked w
IsWork out image_after asked w (Err fault) = IsFailed asked w fault

-- the command line is refused: its `--at` is no address, or it would overwrite what it reads, if the store tells it
abbrev pub IsRefused : (List ℕ → List ℕ → Option Bool) → Request → Type 0
IsRefused same asked = (origin_of (at_of asked) ≡ None) ⊎ IfSome (overwrites same asked) (λ does. does ≡ true)

-- the command line isn't refused
abbrev pub IsAllowed : (List ℕ → List ℕ → Option Bool) → Request → Type 0
IsAllowed same asked = (origin_of (at_of asked) ≢ None) × IfSome (overwrites same asked) (λ does. does ≡ false)

-- a request was carried out with this status: it was refused, and nothing was done; or it was allowed, and this is what became of it
abbrev pub IsCarriedOut : (List ℕ → List ℕ → Option Bool) → (out image_after : List ℕ → List ℕ → List ℕ) → Request → Work → Status → Type 0
IsCarriedOut same out image_after asked w Refused = IsRefused same asked × SameFiles w.before w.after
IsCarriedOut same out image_after asked w status = IsAllowed same asked
    × ((ended : Result (Unit {0}) Fault) × (status ≡ ended_status ended) × IsWork out image_after asked w ended)
