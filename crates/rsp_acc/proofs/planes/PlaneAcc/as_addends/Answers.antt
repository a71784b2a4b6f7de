use Rattle.rsp_acc.proofs.Range.{joined_fit}
use Rattle.rsp_acc.proofs.planes.PlaneAcc.as_addends.Goals as goal

pub returns-clause-within : goal.returns-clause-within
returns-clause-within c = rw (← c.self.view_is) (joined_fit _ _ _)
