use Rattle.std.proofs.Common.{◌≡◌, ◌-◌}
use Rattle.rsp_script_io.specs.Feeds.{script_limit}
use Rattle.rsp_script_io.proofs.Runs.{Progress}
use Rattle.rsp_script_io.proofs.run.answer_script.Given as goal

abbrev pub invariant-loop-n : goal.invariant-loop-n
invariant-loop-n g l = record {
  progress : Progress g.S.LineHandler.answer_to (g.R.Source.rest l.initial.source) (g.R.Source.rest l.source)
      (g.W.Sink.written l.initial.sink) (g.W.Sink.written l.sink) l.feed.line l.initial.session l.session l.feed.count;
  reads : g.R.Source.fault_count l.source ≡ g.R.Source.fault_count l.initial.source;
  writes : g.W.Sink.fault_count l.sink ≡ g.W.Sink.fault_count l.initial.sink;
}

abbrev pub decreases-loop-n : goal.decreases-loop-n
decreases-loop-n g l = script_limit - l.feed.count
