use Rattle.rsp_routines.proofs.DotRuns.{dots}
use Rattle.rsp_routines.proofs.dot.theorem.Goals as goal

pub returns : goal.returns
returns c = dots c.l4.ensures
