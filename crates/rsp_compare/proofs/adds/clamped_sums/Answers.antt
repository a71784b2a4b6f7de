use Rattle.std.proofs.Common.{◌∙◌}
use Rattle.rsp_lanes.proofs.Kit.{each_same}
use Rattle.rsp_compare.proofs.Sums.{sum_bits}
use Rattle.rsp_compare.proofs.adds.clamped_sums.Goals as goal

pub returns-clause-low : goal.returns-clause-low
returns-clause-low c = c.add_carrying-sum.ensures.sum ∙ each_same _ _ (λ i h. sum_bits _ _ _ (c.add_carrying-sum.ensures.within.0.1 i) (c.add_carrying-sum.ensures.within.1.1 i))
