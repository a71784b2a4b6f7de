use Rattle.std.proofs.Common.{◌+◌, ◌≤◌, length}
use Rattle.std.specs.Str.Lines.{lines}
use Rattle.arrayvec.specs.ArrayVec.{array_vec_len}
use Rattle.rsp_asm.proofs.Passes.{Written}
use Rattle.rsp_asm.proofs.assembler.second_pass.Given as goal

abbrev pub invariant-loop-line : goal.invariant-loop-line
invariant-loop-line l =
    Written l.origin l.number (lines l.fn.text) (lines l.rest) l.labels (array_vec_len l.words) l.words.items
    × (l.number + length l.rest ≤ length l.fn.text)

abbrev pub decreases-loop-line : goal.decreases-loop-line
decreases-loop-line l = length l.rest
