use Rattle.std.specs.Str.{str_to_ascii_lowercase}
use Rattle.rsp_syntax.proofs.Tables.{same_answer}
use Rattle.rsp_syntax.proofs.line_bytes.is_same.Goals as goal

pub returns : goal.returns
returns c = same_answer c.eq_ignore_ascii_case.result (str_to_ascii_lowercase c.args.a.now) (str_to_ascii_lowercase c.args.b.now) c.eq_ignore_ascii_case.ensures.test
