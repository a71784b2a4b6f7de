use Rattle.std.proofs.Common.{◌≡◌, drop}
use Rattle.std.specs.Prelude.{map}
use Rattle.std.specs.List.{find}
use Rattle.std.specs.Str.{str_eq_ignore_ascii_case}
use Rattle.rsp_advice.specs.Tables.{command_names}
use Rattle.rsp_advice.proofs.commands.command_named.Given as goal

abbrev pub invariant-loop-command : goal.invariant-loop-command
invariant-loop-command l =
    find (str_eq_ignore_ascii_case l.name) (map (λ row. row.name.now) (drop l.command-index l.command-items))
    ≡ find (str_eq_ignore_ascii_case l.name) command_names
