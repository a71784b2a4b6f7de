use Rattle.rsp_microcode.proofs.Reciprocals.{reciprocals}
use Rattle.rsp_microcode.proofs.laws.reciprocals.Goals as goal

pub returns : goal.returns
returns c = reciprocals
