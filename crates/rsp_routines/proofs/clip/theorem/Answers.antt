use Rattle.rsp_routines.proofs.ClipRuns.{does}
use Rattle.rsp_routines.proofs.clip.theorem.Goals as goal

pub returns : goal.returns
returns c = does c.l4.ensures
