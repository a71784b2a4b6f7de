use Rattle.rsp_microcode.proofs.Bytes.{lanes_reads}
use Rattle.rsp_microcode.proofs.laws.lanes_reads.Goals as goal

pub returns : goal.returns
returns c = lanes_reads
