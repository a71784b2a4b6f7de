use Rattle.rsp_routines.proofs.MultiplyRuns.{multiplies_fixed}
use Rattle.rsp_routines.proofs.multiply.theorem.Goals as goal

pub returns : goal.returns
returns c = multiplies_fixed c.l4.ensures
