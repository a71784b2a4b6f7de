use Rattle.std.proofs.Common.{get_or}
use Rattle.rsp_lanes.specs.Lanes.{each_lane}
use Rattle.rsp_lanes.proofs.Kit.{each_same}
use Rattle.rsp_lanes.proofs.Sums.{greater, greater_is}
use Rattle.rsp_lanes.proofs.signed.greater.Goals as goal

pub returns-clause-value : goal.returns-clause-value
unfolding each_lane
returns-clause-value c =
    rw (c.signed.ensures.value, c.signed-2.ensures.value)
    (each_same (λ i. greater (get_or c.args.a.now i 0) (get_or c.args.b.now i 0)) _ (λ i h. greater_is _ _ (c.signed.ensures.within.1 i) (c.signed-2.ensures.within.1 i)))
