use Rattle.rsp_routines.proofs.AddLanesDiffer.{differs}
use Rattle.rsp_routines.proofs.add_lanes.subtracting_differs.Goals as goal

pub returns : goal.returns
returns c = differs
