use Rattle.rsp_routines.proofs.FillRuns.{fills}
use Rattle.rsp_routines.proofs.fill.theorem.Goals as goal

pub returns : goal.returns
returns c = fills c.l4.ensures
