use Rattle.rsp_c.proofs.Again.{set-as-got}
use Rattle.rsp_c.proofs.laws.set_as_got.Goals as goal

pub returns : goal.returns
returns c = set-as-got
