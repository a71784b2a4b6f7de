use Rattle.std.proofs.Common.{◌≡◌, drop}
use Rattle.std.specs.Prelude.{map}
use Rattle.std.specs.List.{list_any}
use Rattle.std.specs.Str.{str_eq_ignore_ascii_case}
use Rattle.rsp_decode.specs.Table.{rows, entry_of, entry}
use Rattle.rsp_advice.proofs.nearest.is_instruction.Given as goal

abbrev pub invariant-loop-row : goal.invariant-loop-row
invariant-loop-row l =
    list_any (λ row. str_eq_ignore_ascii_case l.name row.name) (map entry (drop l.row-index l.row-items))
    ≡ list_any (λ row. str_eq_ignore_ascii_case l.name row.name) (map entry_of rows)
