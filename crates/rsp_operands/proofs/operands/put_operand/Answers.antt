use Rattle.std.proofs.Common.{ap, ◌∙◌}
use Rattle.std.specs.Prelude.{Ok, Err}
use Rattle.rsp_decode.specs.Table.{bit_fields}
use Rattle.rsp_syntax.specs.Statement as statement
use Rattle.rsp_syntax.specs.Statement.{read, fields_of}
use Rattle.rsp_syntax.specs.OperandResults.{with_values}
use Rattle.rsp_operands.specs.OperandValues.{reading, capped_value}
use Rattle.rsp_operands.proofs.Puts.{fields_fit}
use Rattle.rsp_operands.proofs.OperandValues.{found_alike}
use Rattle.rsp_operands.proofs.operands.put_operand.Goals as goal

pub put-requires-clause-fit : goal.put-requires-clause-fit
put-requires-clause-fit c =
    fields_fit c.args.labels.now c.args.address c.args.kind c.args.text.now c.requires.room (reading c.in_ok-reading.reading) c.in-Ok.fields c.in_ok-reading.ensures c.in-Ok.ensures

pub returns-in-Ok : goal.returns-in-Ok
returns-in-Ok c =
    found_alike (reading c.in_ok-reading.reading) capped_value
    (λ (r : statement.OperandValue). with_values c.args.word (bit_fields c.args.kind) (fields_of c.args.labels.now c.args.address r))
    (read c.args.kind c.args.text.now) (Ok c.put.result) c.in_ok-reading.ensures
    (λ r h. ap Ok c.put.ensures ∙ ap (with_values c.args.word (bit_fields c.args.kind)) (c.in-Ok.ensures r h))

pub returns-in-Err : goal.returns-in-Err
returns-in-Err c =
    found_alike (reading c.in_ok-reading.reading) capped_value
    (λ (r : statement.OperandValue). with_values c.args.word (bit_fields c.args.kind) (fields_of c.args.labels.now c.args.address r))
    (read c.args.kind c.args.text.now) (Err c.in-Err.fault) c.in_ok-reading.ensures
    (λ r h. ap (with_values c.args.word (bit_fields c.args.kind)) (c.in-Err.ensures r h))
