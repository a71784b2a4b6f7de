use Rattle.rsp_microcode.proofs.Runs.{with_branch}
use Rattle.rsp_microcode.proofs.laws.branch_runs.Goals as goal

pub returns : goal.returns
returns c = with_branch
