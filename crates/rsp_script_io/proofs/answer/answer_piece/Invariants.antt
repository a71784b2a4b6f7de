use Rattle.std.proofs.Common.{◌≡◌, ◌≤◌, ◌+◌, length}
use Rattle.rsp_script_io.proofs.PieceAnswers.{Leads, Done}
use Rattle.rsp_script_io.proofs.answer.answer_piece.Given as goal

abbrev pub invariant-loop-rest : goal.invariant-loop-rest
invariant-loop-rest g l = record {
  leads : Leads g.S.LineHandler.answer_to g.met.S.LineHandler.alike (g.W.Sink.written l.initial.sink) (g.W.Sink.written l.sink)
      l.initial.feed.line l.feed.line l.initial.session l.session l.piece l.rest;
  done : Done g.S.LineHandler.answer_to g.met.S.LineHandler.alike (g.W.Sink.written l.initial.sink) (g.W.Sink.written l.sink)
      l.initial.feed.line l.feed.line l.initial.session l.session l.piece l.rest;
  within : length l.rest ≤ length l.piece;
  bytes : l.feed.count + length l.rest ≡ l.initial.feed.count + length l.piece;
  count : g.W.Sink.fault_count l.sink ≡ g.W.Sink.fault_count l.initial.sink;
}

abbrev pub decreases-loop-rest : goal.decreases-loop-rest
decreases-loop-rest g l = length l.rest
