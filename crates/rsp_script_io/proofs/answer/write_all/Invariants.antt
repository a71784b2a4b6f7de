use Rattle.std.proofs.Common.{◌≡◌, length}
use Rattle.rsp_script_io.proofs.Prefixes.{Leaves}
use Rattle.rsp_script_io.proofs.answer.write_all.Given as goal

abbrev pub invariant-loop-rest : goal.invariant-loop-rest
invariant-loop-rest g l = record {
  left : Leaves (g.W.Sink.written l.initial.sink) (g.W.Sink.written l.sink) l.bytes l.rest;
  count : g.W.Sink.fault_count l.sink ≡ g.W.Sink.fault_count l.initial.sink;
}

abbrev pub decreases-loop-rest : goal.decreases-loop-rest
decreases-loop-rest g l = length l.rest
