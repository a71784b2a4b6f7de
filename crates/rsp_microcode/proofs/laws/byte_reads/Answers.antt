use Rattle.rsp_microcode.proofs.Bytes.{byte_reads}
use Rattle.rsp_microcode.proofs.laws.byte_reads.Goals as goal

pub returns : goal.returns
returns c = byte_reads
