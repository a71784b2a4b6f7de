use Rattle.rsp_syntax.specs.Numbers.{expression_of}
use Rattle.rsp_syntax.specs.Capping.{expression, capped_expression}
use Rattle.rsp_syntax.specs.OperandResults.{word_fails}
use Rattle.rsp_operands.proofs.OperandValues.{found_alike}
use Rattle.rsp_operands.proofs.numbers.is_number_out_of_range.Goals as goal

pub returns : goal.returns
returns c = found_alike (expression c.in_ok-e.e) capped_expression word_fails (expression_of c.args.text.now) c.is_beyond.result c.in_ok-e.ensures c.is_beyond.ensures
