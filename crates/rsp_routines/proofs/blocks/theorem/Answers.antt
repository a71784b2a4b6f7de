use Rattle.rsp_routines.proofs.BlocksRuns.{copies}
use Rattle.rsp_routines.proofs.blocks.theorem.Goals as goal

pub returns : goal.returns
returns c = copies c.l4.ensures
