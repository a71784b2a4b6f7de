use Rattle.std.proofs.Common.{sym, subst}
use Rattle.rsp_machine.specs.State.{State}
use Rattle.rsp_routines.specs.Multiply.{words, Multiplies}
use Rattle.rsp_routines.proofs.MultiplyRuns.{multiplies_fixed}
use Rattle.rsp_routines.proofs.running.run_multiply.Goals as goal

pub returns-clause-product : goal.returns-clause-product
returns-clause-product g c =
    let s = c.args.machine.now in
    (subst (λ (t : State). Multiplies words s t) (sym c.steps.ensures.state) (multiplies_fixed c.l4.ensures s c.steps.ensures.ranges c.requires.at c.requires.zero)).product
