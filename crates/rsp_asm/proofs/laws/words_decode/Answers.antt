use Rattle.rsp_asm.proofs.Decodes.{statements_decode}
use Rattle.rsp_asm.proofs.laws.words_decode.Goals as goal

pub returns : goal.returns
returns c = statements_decode
