use Rattle.rsp_lanes.proofs.FlagLanes.{whole}
use Rattle.rsp_lanes.proofs.flags.Flags.read_lanes.Goals as goal

pub returns : goal.returns
returns c = whole _ c.read.ensures.eight c.read-2.ensures.eight c.read-3.ensures.eight c.read-4.ensures.eight c.read-5.ensures.eight
