use Rattle.std.proofs.Common.{ap, ◌∙◌}
use Rattle.std.specs.Prelude.{find}
use Rattle.rsp_syntax.specs.TableSearch.{is_selected}
use Rattle.rsp_syntax.proofs.TableSearch.{selected_row}
use Rattle.rsp_syntax.proofs.table.select_row.Goals as goal

pub returns : goal.returns
returns c = c.select_in.ensures ∙ ap (find (is_selected c.args.word)) c.table.ensures ∙ selected_row c.args.word
