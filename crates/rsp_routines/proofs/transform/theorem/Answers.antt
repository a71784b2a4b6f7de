use Rattle.rsp_routines.proofs.TransformRuns.{transforms}
use Rattle.rsp_routines.proofs.transform.theorem.Goals as goal

pub returns : goal.returns
returns c = transforms c.l4.ensures
