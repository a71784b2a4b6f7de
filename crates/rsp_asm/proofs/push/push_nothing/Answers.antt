use Rattle.std.proofs.Common.{◌∙◌, sym}
use Rattle.rsp_syntax.specs.Statement.{operand_texts}
use Rattle.rsp_asm.proofs.Texts.{some_texts}
use Rattle.rsp_asm.proofs.Statements.{nothing_unsaid}
use Rattle.rsp_asm.proofs.push.push_nothing.Goals as goal

pub returns-then-not-is_empty : goal.returns-then-not-is_empty
returns-then-not-is_empty c labels address = nothing_unsaid labels address (operand_texts c.args.operands.now) (some_texts c.args.operands.now (sym c.is_empty.ensures ∙ c.if-not-is_empty.true))
