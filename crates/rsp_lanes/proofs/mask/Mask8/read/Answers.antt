use Rattle.std.proofs.Common.{◌∙◌, ap, sym, length}
use Rattle.rsp_lanes.specs.Lanes.{truth_values}
use Rattle.rsp_lanes.proofs.Masks.{mask_again, length-truths}
use Rattle.rsp_lanes.proofs.mask.Mask8.read.Goals as goal

pub invariant_of-result : goal.invariant_of-result
invariant_of-result c = rw (mask_again _ c.self.invariant) c.self.invariant

pub returns-clause-value : goal.returns-clause-value
returns-clause-value c = ap truth_values (mask_again _ c.self.invariant) ∙ c.self.view_is

pub returns-clause-eight : goal.returns-clause-eight
returns-clause-eight c = ap length (sym c.self.view_is) ∙ length-truths _ c.self.invariant
