use Rattle.std.proofs.Common.{take}
use Rattle.std.specs.String.{string_bytes}
use Rattle.rsp_explain.specs.Said.{AreSaid}
use Rattle.rsp_explain.proofs.texts.explain_each.Given as goal

abbrev pub invariant-loop-fault : goal.invariant-loop-fault
invariant-loop-fault l = AreSaid l.head l.before (take l.fault-index l.faults) (string_bytes l.said)
