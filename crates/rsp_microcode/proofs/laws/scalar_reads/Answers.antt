use Rattle.rsp_microcode.proofs.Registers.{scalar_reads}
use Rattle.rsp_microcode.proofs.laws.scalar_reads.Goals as goal

pub returns : goal.returns
returns c = scalar_reads
