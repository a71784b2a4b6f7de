use Rattle.rsp_routines.proofs.CopyRuns.{copies}
use Rattle.rsp_routines.proofs.copy.theorem.Goals as goal

pub returns : goal.returns
returns c = copies c.l4.ensures
