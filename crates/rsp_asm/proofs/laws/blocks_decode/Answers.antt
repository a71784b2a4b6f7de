use Rattle.rsp_asm.proofs.Blocks.{blocks_decode}
use Rattle.rsp_asm.proofs.laws.blocks_decode.Goals as goal

pub returns : goal.returns
returns c = blocks_decode
