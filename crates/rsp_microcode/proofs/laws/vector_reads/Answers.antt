use Rattle.rsp_microcode.proofs.Registers.{vector_reads}
use Rattle.rsp_microcode.proofs.laws.vector_reads.Goals as goal

pub returns : goal.returns
returns c = vector_reads
