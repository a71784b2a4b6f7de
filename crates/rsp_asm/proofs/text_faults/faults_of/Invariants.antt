use Rattle.std.proofs.Common.{◌+◌, ◌≤◌, length}
use Rattle.std.specs.Str.Lines.{lines}
use Rattle.rsp_asm.proofs.FaultWalk.{Found}
use Rattle.rsp_asm.proofs.text_faults.faults_of.Given as goal

abbrev pub invariant-loop-line : goal.invariant-loop-line
invariant-loop-line l = record {
  so_far : Found l.origin l.number (lines l.fn.text) (lines l.rest) l.pass.labels l.pass.address l.pass.is_full l.faults.first.items l.faults.count;
  low : l.pass.address ≤ 4096;
  few : l.number + length l.rest ≤ length l.fn.text;
  counted : l.faults.count ≤ l.number;
}

abbrev pub decreases-loop-line : goal.decreases-loop-line
decreases-loop-line l = length l.rest
