use Rattle.std.proofs.Common.{length}
use Rattle.rsp_feed.proofs.Cuts.{Fed}
use Rattle.rsp_feed.proofs.pieces.run_pieces.Given as goal

abbrev pub invariant-loop-rest : goal.invariant-loop-rest
invariant-loop-rest l = Fed l.initial.bench l.script l.replies.items l.rest l.bench

abbrev pub decreases-loop-rest : goal.decreases-loop-rest
decreases-loop-rest l = length l.rest
