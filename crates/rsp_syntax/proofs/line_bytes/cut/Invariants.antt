use Rattle.std.proofs.Common.{◌≡◌, take, true}
use Rattle.rsp_syntax.specs.Cuts.{is_boundary}
use Rattle.rsp_syntax.proofs.Cuts.{no}
use Rattle.rsp_syntax.proofs.line_bytes.cut.Given as goal

abbrev pub invariant-loop-at : goal.invariant-loop-at
invariant-loop-at l = no (is_boundary l.boundary) (take l.at l.text) ≡ true
