use Rattle.rsp_asm.proofs.Texts.{few_texts}
use Rattle.rsp_asm.proofs.operands.Operands.new.Goals as goal

pub returns-clause-few : goal.returns-clause-few
returns-clause-few c = few_texts c.args.text.now
