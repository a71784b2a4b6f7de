use Rattle.rsp_microcode.proofs.Bytes.{word_reads}
use Rattle.rsp_microcode.proofs.laws.word_reads.Goals as goal

pub returns : goal.returns
returns c = word_reads
