use Rattle.std.proofs.Common.{◌≡◌, ◌++◌, ◌≤◌, length, map}
use Rattle.std.specs.Str.Lines.{lines}
use Rattle.rsp_syntax.specs.SourceText.{all_labels}
use Rattle.rsp_asm.specs.LabelList.{listed}
use Rattle.rsp_asm.proofs.LabelWalk.{labels_from, AreClean}
use Rattle.rsp_asm.proofs.labels.labels_of.Given as goal

abbrev pub invariant-loop-line : goal.invariant-loop-line
invariant-loop-line l = record {
  labels : l.found.items ++ map listed (labels_from l.address (lines l.rest)) ≡ map listed (all_labels l.origin (lines l.fn.text));
  clean : AreClean l.address (lines l.rest);
  low : l.address ≤ 4096;
}

abbrev pub decreases-loop-line : goal.decreases-loop-line
decreases-loop-line l = length l.rest
