use Rattle.std.proofs.Common.{◌<◌, ◌≤◌, length, refl, inl, rules}
use Rattle.rsp_cli_files.proofs.Reading.{whole_of_first, longer_of_first}
use Rattle.rsp_cli.proofs.inputs.read_script.Goals as goal

pub returns-then-len-gt-SCRIPT_LIMIT-clause-err : goal.returns-then-len-gt-SCRIPT_LIMIT-clause-err
returns-then-len-gt-SCRIPT_LIMIT-clause-err g c =
    let more : 1048576 < length c.in_ok-script.script.items = search rules in
    inl (refl, longer_of_first _ 1048576 c.in_ok-script.script.items c.in_ok-script.ensures.ok more)

pub returns-clause-ok : goal.returns-clause-ok
returns-clause-ok g c =
    let few : length c.in_ok-script.script.items ≤ 1048576 = search rules in
    whole_of_first _ 1048576 c.in_ok-script.script.items c.in_ok-script.ensures.ok few
