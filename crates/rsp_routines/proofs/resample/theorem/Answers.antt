use Rattle.rsp_routines.proofs.ResampleRuns.{resamples}
use Rattle.rsp_routines.proofs.resample.theorem.Goals as goal

pub returns : goal.returns
returns c = resamples c.l4.ensures
