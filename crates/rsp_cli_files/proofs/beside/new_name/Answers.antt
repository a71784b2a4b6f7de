use Rattle.std.proofs.Common.{rules}
use mathlib.Core.List.{append_assoc}
use Rattle.rsp_cli_files.proofs.beside.new_name.Goals as goal

pub returns : goal.returns
returns c = search (rules, append_assoc)
