use Rattle.rsp_lanes.specs.Lanes.{each_lane}
use Rattle.rsp_lanes.proofs.Kit.{each_same}
use Rattle.rsp_lanes.proofs.Products.{wide_is}
use Rattle.rsp_lanes.proofs.signed.wide.Goals as goal

pub returns-clause-value : goal.returns-clause-value
unfolding each_lane
returns-clause-value c = rw c.signed.ensures.value (each_same _ _ (λ i h. wide_is _ (c.signed.ensures.within.1 i)))
