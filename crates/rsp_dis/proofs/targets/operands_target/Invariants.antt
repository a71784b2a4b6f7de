use Rattle.std.proofs.Common.{◌≡◌, drop}
use Rattle.rsp_dis.specs.Labels.{operands_target}
use Rattle.rsp_dis.proofs.targets.operands_target.Given as goal

abbrev pub invariant-loop-kind : goal.invariant-loop-kind
invariant-loop-kind l =
    operands_target l.word l.address (drop l.kind-index l.kinds) ≡ operands_target l.word l.address l.kinds
