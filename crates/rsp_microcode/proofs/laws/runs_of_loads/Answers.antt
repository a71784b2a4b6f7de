use Rattle.rsp_microcode.proofs.LoadRuns.{loads_run}
use Rattle.rsp_microcode.proofs.laws.runs_of_loads.Goals as goal

pub returns : goal.returns
returns c = loads_run
