use Rattle.rsp_routines.proofs.MixRuns.{mixes_sound}
use Rattle.rsp_routines.proofs.mix.theorem.Goals as goal

pub returns : goal.returns
returns c = mixes_sound c.l4.ensures
