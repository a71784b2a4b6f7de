use Rattle.std.proofs.Common.{◌≡◌, drop, length}
use Rattle.std.specs.Str.Lines.{lines}
use Rattle.rsp_explain.specs.Places.{next_of, next_place}
use Rattle.rsp_explain.proofs.places.Places.next.Given as goal

abbrev pub invariant-loop-line : goal.invariant-loop-line
invariant-loop-line l = record {
  rest : l.rest ≡ drop l.self.bytes l.script;
  next : next_of l.script (lines l.rest) l.self ≡ next_place l.fn.script l.fn.self;
}

abbrev pub decreases-loop-line : goal.decreases-loop-line
decreases-loop-line l = length l.rest
