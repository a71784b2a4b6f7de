use Rattle.std.proofs.Common.{ap}
use Rattle.rsp_lanes.specs.Lanes.{truth_values}
use Rattle.rsp_lanes.proofs.Masks.{mask_again}
use Rattle.rsp_lanes.proofs.mask.Mask8.from_simd.Goals as goal

pub invariant_of-result : goal.invariant_of-result
invariant_of-result c = rw (mask_again c.args.lanes c.requires) c.requires

pub returns : goal.returns
returns c = ap truth_values (mask_again c.args.lanes c.requires)
