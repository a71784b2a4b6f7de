-- How a run ends early.
use Rattle.std.specs.Prelude.{ℕ, Result, Ok, Err}
use Rattle.rsp_script_io.specs.declared.run.RunFault.{RunFault}
use Rattle.rsp_script_io.specs.declared.run.RunFault.TheVariants.{ReadFault, WriteFault, ScriptTooLong, OutOfMemory}

-- how many reads failed in a run: 1 if one ended it
abbrev pub failed_reads : {A : Type 0} → Result A RunFault → ℕ
failed_reads (Ok a) = 0
failed_reads (Err ReadFault) = 1
failed_reads (Err WriteFault) = 0
failed_reads (Err ScriptTooLong) = 0
failed_reads (Err OutOfMemory) = 0

-- how many writes failed in a run, or took nothing of a piece that isn't empty: 1 if one ended it
abbrev pub failed_writes : {A : Type 0} → Result A RunFault → ℕ
failed_writes (Ok a) = 0
failed_writes (Err ReadFault) = 0
failed_writes (Err WriteFault) = 1
failed_writes (Err ScriptTooLong) = 0
failed_writes (Err OutOfMemory) = 0

-- the faults of answering a line
abbrev pub IsAnswerFault : RunFault → Type 0
IsAnswerFault ReadFault = ⊥
IsAnswerFault WriteFault = Unit {0}
IsAnswerFault ScriptTooLong = ⊥
IsAnswerFault OutOfMemory = Unit {0}
