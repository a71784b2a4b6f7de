use Rattle.rsp_routines.proofs.MixLanesRuns.{mixes_lanes}
use Rattle.rsp_routines.proofs.mix_lanes.theorem.Goals as goal

pub returns : goal.returns
returns c = mixes_lanes c.l4.ensures
