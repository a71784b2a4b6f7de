use Rattle.std.proofs.Common.{◌≡◌, length}
use Rattle.rsp_dis.proofs.Marks.{Marks}
use Rattle.rsp_dis.proofs.targets.Targets.of.Given as goal

abbrev pub invariant-loop-i : goal.invariant-loop-i
invariant-loop-i l = record {
  size : length l.marks ≡ 1024;
  marks : Marks l.origin l.words l.i l.marks;
}
