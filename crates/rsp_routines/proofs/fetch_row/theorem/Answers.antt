use Rattle.rsp_routines.proofs.FetchRowRuns.{fetches}
use Rattle.rsp_routines.proofs.fetch_row.theorem.Goals as goal

pub returns : goal.returns
returns c = fetches c.l4.ensures
