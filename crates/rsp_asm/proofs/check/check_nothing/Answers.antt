use Rattle.std.proofs.Common.{◌∙◌, sym}
use Rattle.rsp_syntax.specs.Statement.{operand_texts}
use Rattle.rsp_asm.proofs.Texts.{some_texts}
use Rattle.rsp_asm.proofs.Statements.{nothing_unread}
use Rattle.rsp_asm.proofs.check.check_nothing.Goals as goal

pub returns-then-not-is_empty : goal.returns-then-not-is_empty
returns-then-not-is_empty c address = nothing_unread address (operand_texts c.args.operands.now) (some_texts c.args.operands.now (sym c.is_empty.ensures ∙ c.if-not-is_empty.true))
