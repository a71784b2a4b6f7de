use Rattle.std.proofs.Common.{rules, ◌≡◌}
use Rattle.std.specs.Path.{path_bytes, path_buf_bytes, path_with_file_name}
use Rattle.std.proofs.lemmas.Result.{IfOk-weaker}
use Rattle.rsp_cli_files.specs.Beside.{IsBeside, save_name}
use Rattle.rsp_cli_files.proofs.beside.beside.Goals as goal

pub returns : goal.returns
returns c =
    let start = c.name_start.result.now in
    let path = path_bytes c.args.path in
    IfOk-weaker c.with_file_name.result
    (λ new. path_buf_bytes new ≡ path_with_file_name path (save_name start c.args.number))
    (λ new. IsBeside (path_buf_bytes new) path c.args.number)
    (λ new e. (start, c.name_start.ensures, e))
    (search rules)
