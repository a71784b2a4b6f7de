use Rattle.std.proofs.Common.{refl, sym, ◌∙◌, length}
use Rattle.rsp_syntax.specs.Statement.{statement_of, form_named, operand_texts}
use Rattle.rsp_asm.proofs.Forms.{says_form}
use Rattle.rsp_asm.proofs.Statements.{statement_is}
use Rattle.rsp_asm.proofs.statement.read_statement.Goals as goal

pub returns-in-Some-clause-ok : goal.returns-in-Some-clause-ok
returns-in-Some-clause-ok c =
    let text = c.args.text.now in
    let name = c.split.result.0.now in
    let operands = c.split.result.1.now in
    let is = statement_is text name operands (form_named name (length (operand_texts operands))) (sym c.is_empty.ensures ∙ c.if-is_empty.false) c.split.ensures.name c.split.ensures.operands refl in
    says_form name operands (statement_of text) is c.in-Some.form c.in-Some.ensures
