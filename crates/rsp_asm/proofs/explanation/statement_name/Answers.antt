use Rattle.std.proofs.Common.{sym, ap, ◌∙◌}
use Rattle.std.specs.Prelude.{Some, None, option_map}
use Rattle.rsp_asm.specs.LineParts.{seen_parts}
use Rattle.rsp_asm.proofs.Explaining.{name_by_parts}
use Rattle.rsp_asm.proofs.explanation.statement_name.Goals as goal

pub returns-in-None : goal.returns-in-None
returns-in-None c = name_by_parts c.args.line.now None (sym (ap (option_map seen_parts) c.in-None.is) ∙ c.split_line.ensures)

pub returns-in-Some : goal.returns-in-Some
returns-in-Some c =
    c.split.ensures.name
    ∙ name_by_parts c.args.line.now (Some (seen_parts c.in-Some.parts)) (sym (ap (option_map seen_parts) c.in-Some.is) ∙ c.split_line.ensures)
