use Rattle.rsp_syntax.proofs.Splits.{no_blank_before, no_blank_after}
use Rattle.rsp_asm.proofs.statement.split.Goals as goal

pub returns-in-None-clause-name : goal.returns-in-None-clause-name
returns-in-None-clause-name c = no_blank_before c.args.text.now c.in-None.ensures

pub returns-in-None-clause-operands : goal.returns-in-None-clause-operands
returns-in-None-clause-operands c = no_blank_after c.args.text.now c.in-None.ensures
