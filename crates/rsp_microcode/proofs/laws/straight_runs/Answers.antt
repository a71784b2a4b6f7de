use Rattle.rsp_microcode.proofs.Runs.{straight}
use Rattle.rsp_microcode.proofs.laws.straight_runs.Goals as goal

pub returns : goal.returns
returns c = straight
