use Rattle.std.proofs.Common.{ap, sym, ◌∙◌}
use Rattle.std.specs.Prelude.{find}
use Rattle.rsp_syntax.specs.TableSearch.{has_name}
use Rattle.rsp_syntax.proofs.TableSearch.{named_row, guessed}
use Rattle.rsp_syntax.proofs.table.find_row.Goals as goal

pub returns-then-has_name : goal.returns-then-has_name
returns-then-has_name c = guessed c.args.name.now c.table-rows.result.now c.guess-at.result _ c.table-rows.ensures c.if-at-rows.true (sym c.has_name.ensures ∙ c.if-has_name.true)

pub returns : goal.returns
returns c = c.find_in.ensures ∙ ap (find (has_name c.args.name.now)) c.table-rows.ensures ∙ named_row c.args.name.now
