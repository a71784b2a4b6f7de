use Rattle.rsp_routines.proofs.FindZeroRuns.{does}
use Rattle.rsp_routines.proofs.find_zero.theorem.Goals as goal

pub returns : goal.returns
returns c = does c.l4.ensures
