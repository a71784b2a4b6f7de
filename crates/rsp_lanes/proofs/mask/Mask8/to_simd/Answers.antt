use Rattle.std.proofs.Common.{ap, ◌∙◌}
use Rattle.rsp_lanes.specs.Lanes.{truth_values}
use Rattle.rsp_lanes.proofs.Masks.{mask_again}
use Rattle.rsp_lanes.proofs.mask.Mask8.to_simd.Goals as goal

pub returns-clause-value : goal.returns-clause-value
returns-clause-value c = ap truth_values (mask_again _ c.self.invariant) ∙ c.self.view_is

pub returns-clause-mask : goal.returns-clause-mask
returns-clause-mask c = rw (mask_again _ c.self.invariant) c.self.invariant
