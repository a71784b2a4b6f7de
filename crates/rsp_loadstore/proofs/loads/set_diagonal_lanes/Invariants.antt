use Rattle.std.proofs.Common.{◌≡◌}
use Rattle.rsp_loadstore.specs.TransposedLanes.{with_diagonal}
use Rattle.rsp_loadstore.proofs.loads.set_diagonal_lanes.Given as goal

abbrev pub invariant-loop-l : goal.invariant-loop-l
invariant-loop-l l = l.file ≡ with_diagonal l.lanes l.first l.half l.initial.file l.l
