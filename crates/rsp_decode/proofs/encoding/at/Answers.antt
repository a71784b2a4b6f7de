use Rattle.std.proofs.Common.{◌∙◌, ap, ◌*◌, ◌^◌, ◌%◌, arith}
use Rattle.std.proofs.lemmas.Nat.{shl_whole}
use Rattle.rsp_decode.proofs.encoding.at.Goals as goal

pub returns : goal.returns
returns c =
    ap (λ n. n * 2 ^ c.args.low % 2 ^ 32) c.from.ensures
    ∙ shl_whole c.args.field 8 c.args.low 32 (omega arith) (omega arith)
