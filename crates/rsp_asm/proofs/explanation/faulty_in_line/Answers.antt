use Rattle.std.proofs.Common.{sym, ap, ◌∙◌, length}
use Rattle.std.specs.Prelude.{Some, None, option_map}
use Rattle.std.specs.List.{before_first}
use Rattle.rsp_syntax.specs.declared.line_bytes.Boundary.TheVariants.{Blank}
use Rattle.rsp_syntax.specs.Cuts.{is_boundary}
use Rattle.rsp_syntax.specs.Statement.{form_named, operand_texts}
use Rattle.rsp_asm.specs.LineParts.{seen_parts}
use Rattle.rsp_asm.specs.Forms.{form}
use Rattle.rsp_asm.specs.Explanations.{faulty_in_operands}
use Rattle.rsp_asm.proofs.Explaining.{by_shape, no_shape, by_parts, usable_form}
use Rattle.rsp_asm.proofs.explanation.faulty_in_line.Goals as goal

pub returns-in_default : goal.returns-in_default
returns-in_default c = by_parts (option_map (λ t. t.now) c.args.labels) c.args.line.now None (sym (ap (option_map seen_parts) c.in_default.is) ∙ c.split_line.ensures)

pub faulty_in_form-requires : goal.faulty_in_form-requires
faulty_in_form-requires c = usable_form c.split.result.0.now (length (operand_texts c.split.result.1.now)) (form c.in-Some-form_of.named) (sym (ap (option_map form) c.in-Some-form_of.is) ∙ c.form_of.ensures)

pub returns-in-Some-form_of : goal.returns-in-Some-form_of
returns-in-Some-form_of c =
    let labels = option_map (λ t. t.now) c.args.labels in
    let name = c.split.result.0.now in
    let ts = operand_texts c.split.result.1.now in
    let parts = c.in-Some.parts in
    c.faulty_in_form.ensures
    ∙ by_shape labels (form_named name (length ts)) (form c.in-Some-form_of.named) ts (sym (ap (option_map form) c.in-Some-form_of.is) ∙ c.form_of.ensures)
    ∙ ap (λ n. faulty_in_operands labels n ts) c.split.ensures.name
    ∙ ap (λ o. faulty_in_operands labels (before_first (is_boundary Blank) parts.body.now) (operand_texts o)) c.split.ensures.operands
    ∙ by_parts labels c.args.line.now (Some (seen_parts parts)) (sym (ap (option_map seen_parts) c.in-Some.is) ∙ c.split_line.ensures)

pub returns-in-None : goal.returns-in-None
returns-in-None c =
    let labels = option_map (λ t. t.now) c.args.labels in
    let name = c.split.result.0.now in
    let ts = operand_texts c.split.result.1.now in
    let parts = c.in-Some.parts in
    no_shape labels (form_named name (length ts)) ts (sym (ap (option_map form) c.in-None.is) ∙ c.form_of.ensures)
    ∙ ap (λ n. faulty_in_operands labels n ts) c.split.ensures.name
    ∙ ap (λ o. faulty_in_operands labels (before_first (is_boundary Blank) parts.body.now) (operand_texts o)) c.split.ensures.operands
    ∙ by_parts labels c.args.line.now (Some (seen_parts parts)) (sym (ap (option_map seen_parts) c.in-Some.is) ∙ c.split_line.ensures)
