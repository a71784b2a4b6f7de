use Rattle.rsp_microcode.proofs.Registers.{lane_reads}
use Rattle.rsp_microcode.proofs.laws.lane_reads.Goals as goal

pub returns : goal.returns
returns c = lane_reads
