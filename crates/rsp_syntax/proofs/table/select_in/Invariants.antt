use Rattle.std.proofs.Common.{◌≡◌, drop}
use Rattle.std.specs.Prelude.{map, find}
use Rattle.rsp_decode.specs.Table.{entry}
use Rattle.rsp_syntax.specs.TableSearch.{is_selected}
use Rattle.rsp_syntax.proofs.table.select_in.Given as goal

abbrev pub invariant-loop-row : goal.invariant-loop-row
invariant-loop-row l = find (is_selected l.word) (map entry (drop l.row-index l.rows)) ≡ find (is_selected l.word) (map entry l.rows)
