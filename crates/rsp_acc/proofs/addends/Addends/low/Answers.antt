use Rattle.std.proofs.Common.{◌∙◌}
use Rattle.rsp_acc.proofs.Rejoined.{low_joined}
use Rattle.rsp_acc.proofs.addends.Addends.low.Goals as goal

pub returns : goal.returns
returns c = c.from_simd.ensures ∙ rw (← c.self.view_is) (low_joined _ _ _ c.self.invariant)
