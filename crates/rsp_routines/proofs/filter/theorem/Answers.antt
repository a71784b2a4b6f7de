use Rattle.rsp_routines.proofs.FilterRuns.{filters}
use Rattle.rsp_routines.proofs.filter.theorem.Goals as goal

pub returns : goal.returns
returns c = filters c.l4.ensures
