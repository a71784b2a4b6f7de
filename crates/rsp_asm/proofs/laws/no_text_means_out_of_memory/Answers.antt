use Rattle.rsp_asm.proofs.Faults.{not_out_of_memory}
use Rattle.rsp_asm.proofs.laws.no_text_means_out_of_memory.Goals as goal

pub returns : goal.returns
returns c = not_out_of_memory
