use Rattle.std.proofs.Common.{◌≡◌, ◌-◌, length}
use Rattle.std.specs.Str.Lines.{lines}
use Rattle.rsp_syntax.specs.SourceText.{line_at}
use Rattle.rsp_asm.proofs.explanation.numbered_line.Given as goal

abbrev pub invariant-loop-line : goal.invariant-loop-line
invariant-loop-line l = line_at (lines l.rest) (l.left - 1) ≡ line_at (lines l.fn.text) (l.fn.number - 1)

abbrev pub decreases-loop-line : goal.decreases-loop-line
decreases-loop-line l = length l.rest
