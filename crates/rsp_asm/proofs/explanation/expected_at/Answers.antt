use Rattle.std.proofs.Common.{sym, ap, ◌∙◌, arith}
use Rattle.rsp_asm.specs.Forms.{form}
use Rattle.rsp_asm.specs.FormOperands.{expected_in}
use Rattle.rsp_asm.proofs.Explaining.{kind_there, kind_past}
use Rattle.rsp_asm.proofs.explanation.expected_at.Goals as goal

pub returns-in-Some : goal.returns-in-Some
returns-in-Some c =
    let found = c.in-Some.ensures.lookup in
    kind_there c.in-Row.row.operands.now c.args.index c.in-Some.kind.now found.3.0 (λ d. sym (found.4 (omega arith) d))
    ∙ sym (ap (λ f. expected_in (form f) c.args.index) c.in-Row.is)

pub returns-in-None : goal.returns-in-None
returns-in-None c =
    kind_past c.in-Row.row.operands.now c.args.index c.in-None.ensures.lookup.3
    ∙ sym (ap (λ f. expected_in (form f) c.args.index) c.in-Row.is)
