use Rattle.std.proofs.Common.{refl, false}
use Rattle.rsp_lanes.proofs.Kit.{lane_of}
use Rattle.rsp_lanes.proofs.Rules.{results_are, lows_are, flags_are}
use Rattle.rsp_compare.proofs.Sums.{difference_bits}
use Rattle.rsp_compare.proofs.adds.subtract_borrowed.Goals as goal

pub returns-clause-value : goal.returns-clause-value
returns-clause-value c = results_are _ _ _ _ _ _ c.subtract-difference.ensures.value (λ i h. difference_bits _ _ (c.subtract-difference.ensures.within.0.1 i) (c.subtract-difference.ensures.within.1.1 i))

pub returns-clause-low : goal.returns-clause-low
returns-clause-low c = lows_are _ _ _ _ _ _ c.subtract-difference.ensures.value (λ i h. difference_bits _ _ (c.subtract-difference.ensures.within.0.1 i) (c.subtract-difference.ensures.within.1.1 i))

pub returns-clause-flags : goal.returns-clause-flags
returns-clause-flags c = flags_are _ _ _ _ _ _ c.set_vco.ensures (λ i h. rw (lane_of false _ _ c.is_below.ensures.value i h, lane_of false _ _ c.not.ensures i h, lane_of false _ _ c.is_equal.ensures.value i h) refl)
