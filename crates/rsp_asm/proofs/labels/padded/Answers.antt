use Rattle.std.proofs.Common.{◌-◌, ◌++◌, length, replicate, ap, ◌∙◌}
use Rattle.std.proofs.lemmas.List.{drop-replicate}
use Rattle.rsp_asm.proofs.labels.padded.Goals as goal

pub returns : goal.returns
returns c =
    ap (λ y. c.copy_from_slice.new.self ++ y) (drop-replicate (length c.args.bytes.now) 36 0)
    ∙ ap (λ x. x ++ replicate (36 - length c.args.bytes.now) 0) c.copy_from_slice.ensures.after
