use Rattle.rsp_microcode.proofs.Reciprocals.{roots}
use Rattle.rsp_microcode.proofs.laws.roots.Goals as goal

pub returns : goal.returns
returns c = roots
