use Rattle.rsp_machine.proofs.Whole.{set-as-read}
use Rattle.rsp_machine.proofs.laws.set_as_read.Goals as goal

pub returns : goal.returns
returns c = set-as-read
