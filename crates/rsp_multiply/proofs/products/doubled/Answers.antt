use Rattle.std.proofs.Common.{◌∙◌, refl}
use Rattle.rsp_lanes.proofs.Kit.{lane_of, each_same}
use Rattle.rsp_multiply.proofs.products.doubled.Goals as goal

pub returns-clause-high : goal.returns-clause-high
returns-clause-high c = c.add-2.ensures.value ∙ each_same _ _ (λ i h. rw (lane_of 0 _ _ c.add.ensures.value i h, lane_of 0 _ _ c.top_bit.ensures i h) refl)
