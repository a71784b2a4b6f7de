use Rattle.std.proofs.Common.{ap, arith}
use Rattle.rsp_decode.specs.Table.{entry}
use Rattle.rsp_syntax.specs.SourceLine.{statement_size}
use Rattle.rsp_syntax.specs.Statement.{statement_of, operand_texts}
use Rattle.rsp_asm.specs.declared.statement.Form.TheVariants.{Numbers, Row}
use Rattle.rsp_asm.specs.Forms.{SaysRow}
use Rattle.rsp_asm.proofs.Forms.{of_form}
use Rattle.rsp_asm.proofs.Statements.{numbers_put, row_put}
use Rattle.rsp_asm.proofs.push.push_statement.Goals as goal

pub push_numbers-requires : goal.push_numbers-requires
push_numbers-requires c =
    let is = of_form c.in_ok-statement.statement c.in-Some.field-0 Numbers (statement_of c.args.text.now) c.in-Some.is c.in-Numbers.is c.in_ok-statement.ensures.ok in
    let sizes = ap statement_size is in
    let room = c.requires.room in
    omega (arith, sizes, room)

pub returns-in-Numbers : goal.returns-in-Numbers
returns-in-Numbers c =
    let is = of_form c.in_ok-statement.statement c.in-Some.field-0 Numbers (statement_of c.args.text.now) c.in-Some.is c.in-Numbers.is c.in_ok-statement.ensures.ok in
    numbers_put c.args.labels.now c.args.address c.args.words.now.items c.push_numbers.new.words.items c.push_numbers.result (statement_of c.args.text.now) (operand_texts c.in-Some.field-0.operands.now) is (c.push_numbers.ensures c.args.address)

pub push_row-requires-clause-fit : goal.push_row-requires-clause-fit
push_row-requires-clause-fit c =
    let r : SaysRow (entry c.in-Row.row) c.in-Some.field-0.operands.now (statement_of c.args.text.now) = of_form c.in_ok-statement.statement c.in-Some.field-0 (Row c.in-Row.row) (statement_of c.args.text.now) c.in-Some.is c.in-Row.is c.in_ok-statement.ensures.ok in
    r.usable

pub returns-in-Row : goal.returns-in-Row
returns-in-Row c =
    let r : SaysRow (entry c.in-Row.row) c.in-Some.field-0.operands.now (statement_of c.args.text.now) = of_form c.in_ok-statement.statement c.in-Some.field-0 (Row c.in-Row.row) (statement_of c.args.text.now) c.in-Some.is c.in-Row.is c.in_ok-statement.ensures.ok in
    row_put c.args.labels.now c.args.address c.args.words.now.items c.push_row.new.words.items c.push_row.result (statement_of c.args.text.now) r.row (entry c.in-Row.row) (operand_texts c.in-Some.field-0.operands.now) r.same r.is c.push_row.ensures
