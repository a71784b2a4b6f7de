use Rattle.std.proofs.Common.{sym, ap, ◌∙◌}
use Rattle.std.specs.Prelude.{option_map}
use Rattle.rsp_decode.specs.Table.{entry}
use Rattle.rsp_dis.proofs.Rows.{leads, leads_nowhere, reserved_leads_nowhere}
use Rattle.rsp_dis.proofs.targets.word_target.Goals as goal

pub returns-in-Some : goal.returns-in-Some
returns-in-Some c = c.operands_target.ensures ∙ leads c.args.word c.args.address (entry c.in-Some.row) c.is_canonical.result c.in-Some.ensures c.is_canonical.ensures c.if-is_canonical.true

pub returns-in_default : goal.returns-in_default
returns-in_default c = leads_nowhere c.args.word c.args.address c.is_canonical.result c.is_canonical.ensures c.if-is_canonical.false

pub returns-in_default-2 : goal.returns-in_default-2
returns-in_default-2 c = reserved_leads_nowhere c.args.word c.args.address (sym (ap (option_map entry) c.in_default.is) ∙ c.select_row.ensures)
