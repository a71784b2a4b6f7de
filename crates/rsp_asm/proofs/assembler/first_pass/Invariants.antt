use Rattle.std.proofs.Common.{◌+◌, ◌≤◌, length}
use Rattle.std.specs.Str.Lines.{lines}
use Rattle.rsp_asm.proofs.Passes.{Done}
use Rattle.rsp_asm.proofs.assembler.first_pass.Given as goal

abbrev pub invariant-loop-line : goal.invariant-loop-line
invariant-loop-line l =
    Done l.origin l.number (lines l.fn.text) (lines l.rest) l.labels l.address
    × (l.address ≤ 4096) × (l.number + length l.rest ≤ length l.fn.text)

abbrev pub decreases-loop-line : goal.decreases-loop-line
decreases-loop-line l = length l.rest
