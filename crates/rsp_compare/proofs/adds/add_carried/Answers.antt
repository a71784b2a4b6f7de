use Rattle.std.proofs.Common.{refl, false, add-zero}
use Rattle.rsp_lanes.proofs.Kit.{lane_of}
use Rattle.rsp_lanes.proofs.Rules.{results_are, lows_are, flags_are}
use Rattle.rsp_compare.proofs.adds.add_carried.Goals as goal

pub returns-clause-value : goal.returns-clause-value
returns-clause-value c = results_are _ _ _ _ _ _ c.add_carrying-sum.ensures.sum (λ i h. rw (lane_of false _ _ c.splat-clear.ensures i h, add-zero) refl)

pub returns-clause-low : goal.returns-clause-low
returns-clause-low c = lows_are _ _ _ _ _ _ c.add_carrying-sum.ensures.sum (λ i h. rw (lane_of false _ _ c.splat-clear.ensures i h, add-zero) refl)

pub returns-clause-flags : goal.returns-clause-flags
returns-clause-flags c = flags_are _ _ _ _ _ _ c.set_vco.ensures (λ i h. rw (lane_of false _ _ c.add_carrying-sum.ensures.carry i h, lane_of false _ _ c.splat-clear.ensures i h, add-zero) refl)
