use Rattle.rsp_routines.proofs.AddLanesRuns.{adds_lanes}
use Rattle.rsp_routines.proofs.add_lanes.theorem.Goals as goal

pub returns : goal.returns
returns c = adds_lanes
