use Rattle.std.proofs.Common.{◌∙◌}
use Rattle.rsp_acc.proofs.Range.{joined_fit}
use Rattle.rsp_acc.proofs.Rejoined.{high_joined, middle_joined, low_joined}
use Rattle.rsp_acc.proofs.planes.PlaneAccAcc.part.Goals as goal

pub returns-in-High-clause-value : goal.returns-in-High-clause-value
returns-in-High-clause-value c = c.from_simd.ensures ∙ rw (c.in-High.is, ← c.self.view_is) (high_joined _ _ _ c.self.invariant)

pub returns-in-High-clause-within : goal.returns-in-High-clause-within
returns-in-High-clause-within c = rw (← c.self.view_is) (joined_fit _ _ _)

pub returns-in-Middle-clause-value : goal.returns-in-Middle-clause-value
returns-in-Middle-clause-value c = c.from_simd-in-Middle.ensures ∙ rw (c.in-Middle.is, ← c.self.view_is) (middle_joined _ _ _ c.self.invariant)

pub returns-in-Middle-clause-within : goal.returns-in-Middle-clause-within
returns-in-Middle-clause-within c = rw (← c.self.view_is) (joined_fit _ _ _)

pub returns-in-Low-clause-value : goal.returns-in-Low-clause-value
returns-in-Low-clause-value c = c.from_simd-in-Low.ensures ∙ rw (c.in-Low.is, ← c.self.view_is) (low_joined _ _ _ c.self.invariant)

pub returns-in-Low-clause-within : goal.returns-in-Low-clause-within
returns-in-Low-clause-within c = rw (← c.self.view_is) (joined_fit _ _ _)
