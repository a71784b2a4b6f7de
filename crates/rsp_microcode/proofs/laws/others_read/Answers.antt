use Rattle.rsp_microcode.proofs.Bytes.{outside_read}
use Rattle.rsp_microcode.proofs.laws.others_read.Goals as goal

pub returns : goal.returns
returns c = outside_read
