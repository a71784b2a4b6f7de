use Rattle.std.proofs.Common.{subst}
use Rattle.std.specs.String.{string_bytes}
use Rattle.std.proofs.lemmas.List.{take_all}
use Rattle.rsp_explain.specs.Said.{AreSaid}
use Rattle.rsp_explain.proofs.SaidFirst.{said_next}
use Rattle.rsp_explain.proofs.texts.explain_each.Goals as goal

pub loop-fault-preserved : goal.loop-fault-preserved
loop-fault-preserved c =
    said_next c.args.head c.args.before c.args.faults.now c.loop-fault.fault-index _ (string_bytes c.loop-fault.said) (string_bytes c.push_fault.new.said)
    (string_bytes c.in_ok-reason.reason) c.loop-fault-test.true c.loop-fault.invariant c.in_ok-push_fault.ensures

pub returns : goal.returns
returns c =
    subst (λ faults. AreSaid c.args.head c.args.before faults (string_bytes c.loop-fault.said))
    (take_all c.loop-fault.fault-index c.args.faults.now c.loop-fault-test.false) c.loop-fault.invariant
