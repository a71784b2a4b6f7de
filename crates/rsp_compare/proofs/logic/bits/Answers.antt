use Rattle.std.proofs.Common.{◌∙◌, refl}
use Rattle.rsp_lanes.proofs.Kit.{lane_of, each_same}
use Rattle.rsp_compare.proofs.logic.bits.Goals as goal

pub returns-in-Vnand : goal.returns-in-Vnand
returns-in-Vnand c = rw c.in-Vnand.is (c.not.ensures.value ∙ each_same _ _ (λ i h. rw (lane_of 0 _ _ c.and-in-Vnand.ensures.value i h) refl))

pub returns-in-Vnor : goal.returns-in-Vnor
returns-in-Vnor c = rw c.in-Vnor.is (c.not-in-Vnor.ensures.value ∙ each_same _ _ (λ i h. rw (lane_of 0 _ _ c.or-in-Vnor.ensures i h) refl))

pub returns-in-Vnxor : goal.returns-in-Vnxor
returns-in-Vnxor c = rw c.in-Vnxor.is (c.not-in-Vnxor.ensures.value ∙ each_same _ _ (λ i h. rw (lane_of 0 _ _ c.xor-in-Vnxor.ensures i h) refl))
