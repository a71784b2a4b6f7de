use Rattle.rsp_routines.proofs.RootRuns.{takes_root}
use Rattle.rsp_routines.proofs.root.theorem.Goals as goal

pub returns : goal.returns
returns c = takes_root c.l4.ensures
