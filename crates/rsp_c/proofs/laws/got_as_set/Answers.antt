use Rattle.rsp_c.proofs.Again.{got-as-set}
use Rattle.rsp_c.proofs.laws.got_as_set.Goals as goal

pub returns : goal.returns
returns c = got-as-set
