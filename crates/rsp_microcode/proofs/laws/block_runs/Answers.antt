use Rattle.rsp_microcode.proofs.Branches.{block_runs}
use Rattle.rsp_microcode.proofs.laws.block_runs.Goals as goal

pub returns : goal.returns
returns c = block_runs c.l4.ensures
