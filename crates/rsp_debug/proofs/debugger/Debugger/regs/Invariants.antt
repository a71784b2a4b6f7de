use Rattle.std.proofs.Common.{◌≡◌, ℕ, ◌<◌, length}
use Rattle.std.specs.Prelude.{slice_index}
use Rattle.rsp_scalar.specs.Registers.{register}
use Rattle.rsp_debug.proofs.debugger.Debugger.regs.Given as goal

abbrev pub invariant-loop-n : goal.invariant-loop-n
invariant-loop-n g l = record {
  words : (j : ℕ) → j < l.n → slice_index l.words j ≡ register l.self.state.registers j;
  room : length l.words ≡ 32;
}
