use Rattle.std.proofs.Common.{[]}
use Rattle.rsp_syntax.specs.Numbers.{expression_of}
use Rattle.rsp_syntax.specs.Capping.{expression}
use Rattle.rsp_operands.proofs.OperandValues.{found_value}
use Rattle.rsp_operands.proofs.operand_value.value.Goals as goal

pub returns : goal.returns
returns c = found_value c.args.range [] (expression_of c.args.text.now) (expression c.in_ok-read_expression.field-0) c.in_ok-read_expression.ensures
