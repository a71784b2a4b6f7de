use Rattle.rsp_routines.proofs.MixBuffersRuns.{mixes_all}
use Rattle.rsp_routines.proofs.mix_buffers.theorem.Goals as goal

pub returns : goal.returns
returns c = mixes_all c.l4.ensures
