use Rattle.rsp_acc.proofs.Rejoined.{joined_with_low}
use Rattle.rsp_acc.proofs.addends.Addends.set_low.Goals as goal

pub returns : goal.returns
returns c = rw (← c.self.view_is, c.to_simd-self-inside.ensures.value) (joined_with_low _ _ _ c.self.invariant _)
