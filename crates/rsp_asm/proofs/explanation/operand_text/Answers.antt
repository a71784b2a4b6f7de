use Rattle.std.proofs.Common.{sym, ap, ◌∙◌}
use Rattle.std.specs.Prelude.{Some, None, option_map}
use Rattle.rsp_syntax.specs.Statement.{operand_texts}
use Rattle.rsp_asm.specs.LineParts.{seen_parts}
use Rattle.rsp_asm.specs.Explanations.{text_at}
use Rattle.rsp_asm.proofs.Explaining.{text_by_parts}
use Rattle.rsp_asm.proofs.explanation.operand_text.Goals as goal

pub returns-in_default : goal.returns-in_default
returns-in_default c = text_by_parts c.args.line.now c.args.index None (sym (ap (option_map seen_parts) c.in_default.is) ∙ c.split_line.ensures)

pub returns : goal.returns
returns c =
    c.nth.ensures
    ∙ ap (λ o. text_at (operand_texts o) c.args.index) c.split.ensures.operands
    ∙ text_by_parts c.args.line.now c.args.index (Some (seen_parts c.in-Some.parts)) (sym (ap (option_map seen_parts) c.in-Some.is) ∙ c.split_line.ensures)
