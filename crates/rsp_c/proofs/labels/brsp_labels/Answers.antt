use Rattle.std.proofs.Common.{subst, inr, ℕ, List}
use Rattle.rsp_asm.specs.AssembleFaults.{IsFault}
use Rattle.rsp_asm.proofs.Faults.{short_hides}
use Rattle.rsp_c.proofs.labels.brsp_labels.Goals as goal

pub returns-in-OutOfMemory-clause-hides : goal.returns-in-OutOfMemory-clause-hides
returns-in-OutOfMemory-clause-hides c _ =
    inr (_, short_hides c.args.origin c.args.text.now c.in-Err.fault (subst (λ (t : List ℕ). IsFault c.args.origin t c.in-Err.fault) c.in-Ok.ensures.cases.0 c.in-Err.ensures.err) c.in-OutOfMemory.is)
