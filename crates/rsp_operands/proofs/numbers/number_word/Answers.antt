use Rattle.rsp_syntax.specs.Numbers.{expression_of}
use Rattle.rsp_syntax.specs.Capping.{expression, capped_expression}
use Rattle.rsp_syntax.specs.OperandResults.{word_value}
use Rattle.rsp_operands.proofs.OperandValues.{found_alike}
use Rattle.rsp_operands.proofs.numbers.number_word.Goals as goal

pub returns : goal.returns
returns c = found_alike (expression c.in_ok-e.e) capped_expression (word_value c.args.labels.now) (expression_of c.args.text.now) c.expression_field.result c.in_ok-e.ensures c.expression_field.ensures
