use Rattle.rsp_microcode.proofs.Lanes.{loads_lanes}
use Rattle.rsp_microcode.proofs.laws.loads_lanes.Goals as goal

pub returns : goal.returns
returns c = loads_lanes
