use Rattle.std.proofs.Common.{◌≡◌, drop}
use Rattle.std.specs.Prelude.{map, find}
use Rattle.rsp_decode.specs.Table.{entry}
use Rattle.rsp_syntax.specs.TableSearch.{has_name}
use Rattle.rsp_syntax.proofs.table.find_in.Given as goal

abbrev pub invariant-loop-row : goal.invariant-loop-row
invariant-loop-row l = find (has_name l.name) (map entry (drop l.row-index l.rows)) ≡ find (has_name l.name) (map entry l.rows)
