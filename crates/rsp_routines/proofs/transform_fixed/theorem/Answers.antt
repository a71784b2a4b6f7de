use Rattle.rsp_routines.proofs.TransformFixedRuns.{transforms_fixed}
use Rattle.rsp_routines.proofs.transform_fixed.theorem.Goals as goal

pub returns : goal.returns
returns c = transforms_fixed c.l4.ensures
