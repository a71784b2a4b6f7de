use Rattle.std.proofs.Common.{◌≡◌, ◌≤◌, ◌<◌, ◌-◌, ℕ, true, false}
use Rattle.rsp_memory.specs.Memory.{word_at}
use Rattle.rsp_machine.specs.Laws.{steps_of}
use Rattle.rsp_machine.specs.ProgramCounters.{with_counters}
use Rattle.rsp_machine.specs.Transfers.{starts_dma_at}
use Rattle.rsp_machine.specs.Until.{ends_after}
use Rattle.rsp_machine.proofs.LoopSteps.{HasRun}
use Rattle.rsp_machine.proofs.machine.Machine.run_loop.Given as goal

abbrev pub invariant-loop-made : goal.invariant-loop-made
invariant-loop-made g l = record {
  within : l.made ≤ l.fn.n;
  run : HasRun g.K.Recorder.saves g.K.Recorder.slot (g.U.Until.refuses l.until) l.made l.fn.self (with_counters l.counters l.self) l.fn.slots l.slots;
  goes : l.self.sp.halted ≡ false;
  free : l.single ≡ false → l.self.sp.single_step ≡ false;
  word : l.word ≡ word_at l.self.imem l.counters.pc;
  before : (i : ℕ) → i < l.made → g.K.Recorder.ends_at_dma ≡ true → starts_dma_at (steps_of i l.fn.self) ≡ false;
  asked : (i : ℕ) → i < l.made → ends_after (g.U.Until.ends l.until) (steps_of i l.fn.self) ≡ false;
}

abbrev pub decreases-loop-made : goal.decreases-loop-made
decreases-loop-made g l = l.fn.n - l.made
