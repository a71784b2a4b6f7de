use Rattle.std.proofs.Common.{◌≡◌, ◌∷◌, drop}
use Rattle.std.specs.Prelude.{slice_index_or}
use Rattle.rsp_debug.specs.HistoryRing.{states_before}
use Rattle.rsp_debug.proofs.debugger.Debugger.back.Given as goal

abbrev pub invariant-loop : goal.invariant-loop
invariant-loop g l =
    let now = l.self-inside in
    let first = l.initial.self-inside in
    let before = states_before first.machine first.history.newest in
    record {
      past : states_before now.machine now.history.newest ≡ drop l.counter before;
      state : now.machine ≡ slice_index_or (first.machine ∷ before) l.counter first.machine;
      depth : now.history.depth ≡ first.history.depth;
      breaks : now.breaks ≡ first.breaks;
      watches : now.watches ≡ first.watches;
    }
