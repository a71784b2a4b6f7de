use Rattle.rsp_microcode.proofs.Lanes.{stores_lanes}
use Rattle.rsp_microcode.proofs.laws.stores_lanes.Goals as goal

pub returns : goal.returns
returns c = stores_lanes
