use Rattle.std.proofs.Common.{◌≡◌, length}
use Rattle.rsp_debug.proofs.history.History.try_new.Given as goal

abbrev pub invariant-loop : goal.invariant-loop
invariant-loop l = record {
  filled : length l.slots.items ≡ l.counter;
  room : l.slots.capacity ≡ l.initial.depth;
  same : l.depth ≡ l.initial.depth;
}
