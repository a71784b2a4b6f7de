use Rattle.std.proofs.Common.{refl, ap, false}
use Rattle.rsp_lanes.proofs.Kit.{lane_of}
use Rattle.rsp_lanes.proofs.Rules.{results_are, lows_are, flags_are}
use Rattle.rsp_compare.proofs.Sums.{difference}
use Rattle.rsp_numbers.specs.Numbers.{sixteen_bits, clamp16}
use Rattle.rsp_compare.proofs.adds.subtract.Goals as goal

pub returns-clause-value : goal.returns-clause-value
returns-clause-value c = results_are _ _ _ _ _ _ c.clamped_sums-sums.ensures.value (λ i h.
    rw (lane_of 0 _ _ c.not.ensures.value i h, lane_of false _ _ c.not-2.ensures i h) (ap (λ n. sixteen_bits (clamp16 n)) (difference _ _ _ (c.not.ensures.within.1 i))))

pub returns-clause-low : goal.returns-clause-low
returns-clause-low c = lows_are _ _ _ _ _ _ c.clamped_sums-sums.ensures.low (λ i h.
    rw (lane_of 0 _ _ c.not.ensures.value i h, lane_of false _ _ c.not-2.ensures i h) (ap sixteen_bits (difference _ _ _ (c.not.ensures.within.1 i))))

pub returns-clause-flags : goal.returns-clause-flags
returns-clause-flags c = flags_are _ _ _ _ _ _ c.clear_vco.ensures (λ i h. refl)
