use Rattle.std.proofs.Common.{◌≡◌, ℕ, ◌<◌, length, []}
use Rattle.std.specs.Prelude.{slice_index_or}
use Rattle.rsp_loadstore.specs.File.{vector}
use Rattle.rsp_loadstore.proofs.file.VFile.from_lanes.Given as goal

abbrev pub invariant-loop-n : goal.invariant-loop-n
invariant-loop-n l = record {
  count : length l.file ≡ 32;
  registers : (k : ℕ) → k < l.n → vector l.file k ≡ slice_index_or l.lanes k [];
}
