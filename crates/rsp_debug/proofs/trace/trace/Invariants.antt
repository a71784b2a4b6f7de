use Rattle.std.proofs.Common.{◌≡◌, ◌≤◌, ◌-◌, length, take, drop}
use Rattle.rsp_debug.specs.Traces.{trace_of}
use Rattle.rsp_debug.proofs.RunLoop.{IsGoing}
use Rattle.rsp_debug.proofs.trace.trace.Given as goal

abbrev pub invariant-loop-made : goal.invariant-loop-made
invariant-loop-made g l = record {
  count : l.n ≡ length l.fn.out;
  within : l.made ≤ l.n;
  going : IsGoing l.conditions.breaks.now l.conditions.snapshots.now l.conditions.moves l.n l.fn.machine l.fn.history l.made l.machine l.history l.found;
  entries : take l.made l.out ≡ trace_of l.made l.fn.machine;
  rest : drop l.made l.out ≡ drop l.made l.fn.out;
}

abbrev pub decreases-loop-made : goal.decreases-loop-made
decreases-loop-made g l = l.n - l.made
