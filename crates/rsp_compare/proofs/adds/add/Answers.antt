use Rattle.std.proofs.Common.{refl}
use Rattle.rsp_lanes.proofs.Rules.{results_are, lows_are, flags_are}
use Rattle.rsp_compare.proofs.adds.add.Goals as goal

pub returns-clause-value : goal.returns-clause-value
returns-clause-value c = results_are _ _ _ _ _ _ c.clamped_sums-sums.ensures.value (λ i h. refl)

pub returns-clause-low : goal.returns-clause-low
returns-clause-low c = lows_are _ _ _ _ _ _ c.clamped_sums-sums.ensures.low (λ i h. refl)

pub returns-clause-flags : goal.returns-clause-flags
returns-clause-flags c = flags_are _ _ _ _ _ _ c.clear_vco.ensures (λ i h. refl)
