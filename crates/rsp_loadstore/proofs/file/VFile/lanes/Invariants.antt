use Rattle.std.proofs.Common.{◌≡◌, ℕ, ◌<◌, length, []}
use Rattle.std.specs.Prelude.{slice_index_or}
use Rattle.rsp_loadstore.specs.File.{vector}
use Rattle.rsp_loadstore.proofs.file.VFile.lanes.Given as goal

abbrev pub invariant-loop-n : goal.invariant-loop-n
invariant-loop-n l = record {
  count : length l.lanes ≡ 32;
  registers : (k : ℕ) → k < l.n → slice_index_or l.lanes k [] ≡ vector l.self-inside.registers k;
}
