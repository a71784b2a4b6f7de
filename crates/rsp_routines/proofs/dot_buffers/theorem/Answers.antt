use Rattle.rsp_routines.proofs.DotBuffersRuns.{dots_buffers}
use Rattle.rsp_routines.proofs.dot_buffers.theorem.Goals as goal

pub returns : goal.returns
returns c = dots_buffers c.l4.ensures
