use Rattle.rsp_microcode.proofs.Calls.{call_runs, routine_run}
use Rattle.rsp_microcode.proofs.laws.calls.Goals as goal

pub returns-clause-call : goal.returns-clause-call
returns-clause-call c = call_runs

pub returns-clause-routine : goal.returns-clause-routine
returns-clause-routine c = routine_run c.l4.ensures
