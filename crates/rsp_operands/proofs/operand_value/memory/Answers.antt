use Rattle.std.proofs.Common.{ap, ◌∙◌, sym}
use Rattle.std.specs.Prelude.{option_map}
use Rattle.rsp_syntax.specs.Capping.{expression}
use Rattle.rsp_operands.specs.OperandValues.{reading, capped_value}
use Rattle.rsp_syntax.specs.Statement.{base_of, offset_of, memory, memory_operand}
use Rattle.rsp_operands.proofs.OperandValues.{found_memory, lost_base}
use Rattle.rsp_operands.proofs.operand_value.memory.Goals as goal

pub returns-in_err-base : goal.returns-in_err-base
returns-in_err-base c =
    let range = c.args.range in
    ap (option_map reading) c.from_residual-in_err-base.ensures
    ∙ ap (option_map capped_value) (sym (lost_base range (offset_of c.in_ok-prefix.prefix.now)))
    ∙ ap (λ b. option_map capped_value (memory range (offset_of c.in_ok-prefix.prefix.now) b)) c.in_err-base.ensures
    ∙ ap (λ o. option_map capped_value (memory_operand range o)) c.in_ok-prefix.ensures

pub returns : goal.returns
returns c =
    let range = c.args.range in
    found_memory range (offset_of c.in_ok-prefix.prefix.now) (expression c.in_ok-offset.field-0) c.in_ok-base.field-0 (base_of c.in_ok-prefix.rest.now) c.in_ok-offset.ensures c.in_ok-base.ensures
    ∙ ap (λ o. option_map capped_value (memory_operand range o)) c.in_ok-prefix.ensures
