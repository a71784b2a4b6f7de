use Rattle.std.proofs.Common.{◌∙◌, sym, inl}
use Rattle.std.specs.Str.Lines.{lines}
use Rattle.std.proofs.lemmas.Result.{IfOk-weaker, IfErr-weaker}
use Rattle.rsp_asm.proofs.SameAddresses.{means_same}
use Rattle.rsp_asm.proofs.assembler.assemble.Goals as goal

pub returns-clause-ok : goal.returns-clause-ok
returns-clause-ok c =
    let same = means_same c.args.origin (lines c.args.text.now) c.in_ok-labels.labels (rw c.as_bytes-bytes.ensures.value at c.in_ok-labels.ensures.clean) (rw c.as_bytes-bytes.ensures.value at c.in_ok-labels.ensures.labels) in
    IfOk-weaker c.second_pass.result _ _ (λ w e. sym same ∙ e) (rw c.as_bytes-bytes.ensures.value at c.second_pass.ensures.ok)

pub returns-clause-err : goal.returns-clause-err
returns-clause-err c =
    let same = means_same c.args.origin (lines c.args.text.now) c.in_ok-labels.labels (rw c.as_bytes-bytes.ensures.value at c.in_ok-labels.ensures.clean) (rw c.as_bytes-bytes.ensures.value at c.in_ok-labels.ensures.labels) in
    IfErr-weaker c.second_pass.result _ _ (λ f e. inl (sym same ∙ e)) (rw c.as_bytes-bytes.ensures.value at c.second_pass.ensures.err)
