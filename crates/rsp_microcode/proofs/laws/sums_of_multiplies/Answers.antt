use Rattle.rsp_microcode.proofs.Multiplies.{sums}
use Rattle.rsp_microcode.proofs.laws.sums_of_multiplies.Goals as goal

pub returns : goal.returns
returns c = sums c.l4.ensures
