use Rattle.rsp_microcode.proofs.Runs.{over}
use Rattle.rsp_microcode.proofs.laws.steps_over.Goals as goal

pub returns : goal.returns
returns c = over
