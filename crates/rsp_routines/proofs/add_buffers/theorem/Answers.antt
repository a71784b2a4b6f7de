use Rattle.rsp_routines.proofs.AddBuffersRuns.{adds}
use Rattle.rsp_routines.proofs.add_buffers.theorem.Goals as goal

pub returns : goal.returns
returns c = adds c.l4.ensures
