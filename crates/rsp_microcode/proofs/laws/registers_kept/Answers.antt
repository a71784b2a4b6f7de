use Rattle.rsp_microcode.proofs.Kept.{kept_but}
use Rattle.rsp_microcode.proofs.laws.registers_kept.Goals as goal

pub returns : goal.returns
returns c = kept_but
