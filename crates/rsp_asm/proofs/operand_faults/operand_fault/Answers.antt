use Rattle.std.proofs.Common.{sym, ap, ◌∙◌, length}
use Rattle.std.specs.Prelude.{Some, None, option_map}
use Rattle.std.specs.List.{before_first}
use Rattle.rsp_syntax.specs.declared.line_bytes.Boundary.TheVariants.{Blank}
use Rattle.rsp_syntax.specs.Cuts.{is_boundary}
use Rattle.rsp_syntax.specs.Statement.{form_named, operand_texts}
use Rattle.rsp_asm.specs.LineParts.{seen_parts}
use Rattle.rsp_asm.specs.Forms.{form}
use Rattle.rsp_asm.specs.OperandFaults.{fault_in_operands}
use Rattle.rsp_asm.proofs.Explaining.{fault_by_shape, fault_of_none, fault_by_parts, usable_form}
use Rattle.rsp_asm.proofs.operand_faults.operand_fault.Goals as goal

pub returns-in_default : goal.returns-in_default
returns-in_default c = fault_by_parts c.args.line.now c.args.index None (sym (ap (option_map seen_parts) c.in_default.is) ∙ c.split_line.ensures)

pub fault_in_form-requires : goal.fault_in_form-requires
fault_in_form-requires c = usable_form c.split.result.0.now (length (operand_texts c.split.result.1.now)) (form c.in-Some-form_of.named) (sym (ap (option_map form) c.in-Some-form_of.is) ∙ c.form_of.ensures)

pub returns-in-Some-form_of : goal.returns-in-Some-form_of
returns-in-Some-form_of c =
    let i = c.args.index in
    let name = c.split.result.0.now in
    let ts = operand_texts c.split.result.1.now in
    let parts = c.in-Some.parts in
    c.fault_in_form.ensures
    ∙ fault_by_shape (form_named name (length ts)) (form c.in-Some-form_of.named) ts i (sym (ap (option_map form) c.in-Some-form_of.is) ∙ c.form_of.ensures)
    ∙ ap (λ n. fault_in_operands n ts i) c.split.ensures.name
    ∙ ap (λ o. fault_in_operands (before_first (is_boundary Blank) parts.body.now) (operand_texts o) i) c.split.ensures.operands
    ∙ fault_by_parts c.args.line.now i (Some (seen_parts parts)) (sym (ap (option_map seen_parts) c.in-Some.is) ∙ c.split_line.ensures)

pub returns-in-None : goal.returns-in-None
returns-in-None c =
    let i = c.args.index in
    let name = c.split.result.0.now in
    let ts = operand_texts c.split.result.1.now in
    let parts = c.in-Some.parts in
    fault_of_none (form_named name (length ts)) ts i (sym (ap (option_map form) c.in-None.is) ∙ c.form_of.ensures)
    ∙ ap (λ n. fault_in_operands n ts i) c.split.ensures.name
    ∙ ap (λ o. fault_in_operands (before_first (is_boundary Blank) parts.body.now) (operand_texts o) i) c.split.ensures.operands
    ∙ fault_by_parts c.args.line.now i (Some (seen_parts parts)) (sym (ap (option_map seen_parts) c.in-Some.is) ∙ c.split_line.ensures)
