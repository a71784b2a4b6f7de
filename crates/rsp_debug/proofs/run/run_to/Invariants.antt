use Rattle.std.proofs.Common.{◌≤◌, ◌-◌}
use Rattle.rsp_debug.proofs.RunLoop.{IsGoing}
use Rattle.rsp_debug.proofs.run.run_to.Given as goal

abbrev pub invariant-loop-left : goal.invariant-loop-left
invariant-loop-left g l = record {
  within : l.left ≤ l.n;
  going : IsGoing l.conditions.breaks.now l.conditions.snapshots.now l.conditions.moves l.n l.fn.machine l.fn.history (l.n - l.left) l.machine l.history l.found;
}

abbrev pub decreases-loop-left : goal.decreases-loop-left
decreases-loop-left g l = l.left
