use Rattle.rsp_lanes.proofs.FlagLanes.{whole_vco}
use Rattle.rsp_lanes.proofs.flags.Flags.set_vco.Goals as goal

pub returns : goal.returns
returns c =
    rw (c.read-self.ensures.value, c.read-self-2.ensures.value)
    (whole_vco _ _ _ c.read-self.ensures.eight c.read-self-2.ensures.eight c.read_lanes.ensures)
