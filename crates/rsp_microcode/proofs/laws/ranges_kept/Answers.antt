use Rattle.rsp_microcode.proofs.Ranges.{ranges}
use Rattle.rsp_microcode.proofs.laws.ranges_kept.Goals as goal

pub returns : goal.returns
returns c = ranges
