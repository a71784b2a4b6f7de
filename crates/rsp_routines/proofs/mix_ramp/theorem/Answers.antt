use Rattle.rsp_routines.proofs.MixRampRuns.{mixes_ramps}
use Rattle.rsp_routines.proofs.mix_ramp.theorem.Goals as goal

pub returns : goal.returns
returns c = mixes_ramps c.l4.ensures
