use Rattle.std.proofs.Common.{refl, ◌∙◌}
use Rattle.rsp_lanes.specs.Lanes.{each_lane}
use Rattle.rsp_numbers.specs.Numbers.{join, s48}
use Rattle.rsp_acc.proofs.addends.Addends.zero.Goals as goal

pub returns : goal.returns
unfolding each_lane join s48
returns c = c.from_planes.ensures ∙ rw c.splat-zeros.ensures refl
