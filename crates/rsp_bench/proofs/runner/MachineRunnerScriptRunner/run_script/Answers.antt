use Rattle.std.proofs.Common.{◌<◌, List, ℕ, Option, Some, None, IfSome, length, refl}
use Rattle.rsp_script_io.specs.Feeds.{script_limit}
use Rattle.rsp_bench.proofs.runner.MachineRunnerScriptRunner.run_script.Goals as goal

too_long : (rest : Option (List ℕ)) (P Q : Type 0) → IfSome rest (λ script. P → script_limit < length script) → P
    → IfSome rest (λ script. Q → script_limit < length script)
too_long None P Q h p = tt
too_long (Some script) P Q h p = λ _. h p

pub returns-in-ScriptTooLong-clause-long : goal.returns-in-ScriptTooLong-clause-long
returns-in-ScriptTooLong-clause-long g c = too_long _ _ _ c.in-ScriptTooLong.ensures.long refl

pub returns-in-OutOfMemory-clause-memory : goal.returns-in-OutOfMemory-clause-memory
returns-in-OutOfMemory-clause-memory g c = λ _. c.in-OutOfMemory.ensures.memory refl
