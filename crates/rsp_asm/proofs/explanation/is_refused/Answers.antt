use Rattle.std.proofs.Common.{sym, ap, ◌∙◌}
use Rattle.std.specs.Prelude.{Some, option_map}
use Rattle.rsp_syntax.specs.Numbers.{expression_of}
use Rattle.rsp_asm.specs.declared.explanation.Expected.TheVariants.{Number}
use Rattle.rsp_asm.specs.Explanations.{verdict}
use Rattle.rsp_asm.proofs.Explaining.{number_refused}
use Rattle.rsp_asm.proofs.explanation.is_refused.Goals as goal

pub returns-in-None : goal.returns-in-None
returns-in-None c =
    let text = c.args.text.now in
    c.is_number_out_of_range.ensures
    ∙ sym (ap (λ o. verdict (option_map (λ t. t.now) o) Number text) c.in-None.is)
    ∙ sym (ap (λ e. verdict (option_map (λ t. t.now) c.args.labels) e text) c.in-Number.is)

pub returns-in_ok-number_word-in-Some : goal.returns-in_ok-number_word-in-Some
returns-in_ok-number_word-in-Some c =
    let text = c.args.text.now in
    ap Some c.is_err.ensures.value
    ∙ number_refused c.in-Some.labels.now (expression_of text) c.in_ok-number_word-in-Some.field-0 (sym c.in_ok-number_word-in-Some.was ∙ c.number_word.ensures)
    ∙ sym (ap (λ o. verdict (option_map (λ t. t.now) o) Number text) c.in-Some.is)
    ∙ sym (ap (λ e. verdict (option_map (λ t. t.now) c.args.labels) e text) c.in-Number.is)
