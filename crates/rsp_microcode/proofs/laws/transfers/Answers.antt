use Rattle.rsp_microcode.proofs.Transfers.{fetch_runs, send_runs}
use Rattle.rsp_microcode.proofs.laws.transfers.Goals as goal

pub returns-clause-fetch : goal.returns-clause-fetch
returns-clause-fetch c = fetch_runs

pub returns-clause-send : goal.returns-clause-send
returns-clause-send c = send_runs
