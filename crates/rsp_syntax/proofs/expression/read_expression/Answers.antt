use Rattle.std.proofs.Common.{ap, ◌∙◌, sym, false, true, rules, w64, FitsSigned}
use Rattle.std.specs.Prelude.{Some, option_map}
use Rattle.std.proofs.lemmas.Int.{to_z-of_z}
use Rattle.rsp_syntax.specs.Chars.{trim}
use Rattle.rsp_syntax.specs.Numbers.{constant, label_and_number}
use Rattle.rsp_syntax.specs.Capping.{expression, capped_expression}
use Rattle.rsp_syntax.proofs.Expressions.{is_number, is_sum, is_difference, is_nothing}
use Rattle.rsp_syntax.proofs.expression.read_expression.Goals as goal

pub returns-in-Some : goal.returns-in-Some
returns-in-Some c =
    let fits : FitsSigned w64 c.in-Some.offset = search rules in
    ap Some (c.numbered-in-Some.ensures ∙ ap constant (to_z-of_z w64 c.in-Some.offset fits))
    ∙ is_number c.args.text.now (sym c.is_label.ensures ∙ c.if-is_label.false) c.in-Some.offset c.in-Some.ensures

pub returns-in-Some-cut : goal.returns-in-Some-cut
returns-in-Some-cut c =
    c.label_and_number.ensures
    ∙ ap (λ n. option_map capped_expression (label_and_number n false c.skip_blanks.result.now)) c.trim.ensures.value
    ∙ ap (λ r. option_map capped_expression (label_and_number (trim c.in-Some-cut.name.now) false r)) c.skip_blanks.ensures.value
    ∙ ap (option_map capped_expression) (sym (is_sum c.args.text.now (sym c.is_label.ensures ∙ c.if-is_label.false) c.in-Some-cut.name.now c.in-Some-cut.rest.now c.in_default.ensures c.in-Some-cut.ensures))

pub returns-in_err-name : goal.returns-in_err-name
returns-in_err-name c =
    ap (option_map expression) c.from_residual.ensures
    ∙ ap (option_map capped_expression) (sym (is_nothing c.args.text.now (sym c.is_label.ensures ∙ c.if-is_label.false) c.in_default.ensures c.in_default-cut.ensures c.in_err-name.ensures))

pub returns : goal.returns
returns c =
    c.label_and_number-2.ensures
    ∙ ap (λ n. option_map capped_expression (label_and_number n true c.skip_blanks-2.result.now)) c.trim-2.ensures.value
    ∙ ap (λ r. option_map capped_expression (label_and_number (trim c.in_ok-name.name.now) true r)) c.skip_blanks-2.ensures.value
    ∙ ap (option_map capped_expression) (sym (is_difference c.args.text.now (sym c.is_label.ensures ∙ c.if-is_label.false) c.in_ok-name.name.now c.in_ok-name.rest.now c.in_default.ensures c.in_default-cut.ensures c.in_ok-name.ensures))
