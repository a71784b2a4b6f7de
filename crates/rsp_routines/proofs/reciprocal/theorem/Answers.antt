use Rattle.rsp_routines.proofs.ReciprocalRuns.{improves}
use Rattle.rsp_routines.proofs.reciprocal.theorem.Goals as goal

pub returns : goal.returns
returns c = improves c.l4.ensures
