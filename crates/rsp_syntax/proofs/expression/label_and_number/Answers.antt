use Rattle.std.proofs.Common.{◌≡◌, ap, ◌∙◌, sym, true, rules, w64, FitsSigned}
use Rattle.std.proofs.lemmas.Int.{to_z-of_z}
use Rattle.std.specs.Prelude.{Some, option_map, None}
use Rattle.std.proofs.lemmas.Bool.{cond-true}
use Rattle.rsp_syntax.specs.Numbers.{is_label, unsigned_of, plus, signed_number}
use Rattle.rsp_syntax.specs.Capping.{capped_expression}
use Rattle.rsp_syntax.proofs.Expressions.{labelled_number}
use Rattle.rsp_syntax.proofs.expression.label_and_number.Goals as goal

pub returns : goal.returns
returns c =
    let name = c.args.name.now in
    let negative = c.args.negative in
    let yes : is_label name ≡ true = sym c.is_label.ensures ∙ c.if-not-is_label.false in
    let fits : FitsSigned w64 c.signed.result = search rules in
    ap Some (c.numbered.ensures ∙ ap (plus name) (to_z-of_z w64 c.signed.result fits ∙ c.signed.ensures))
    ∙ labelled_number name negative (unsigned_of c.args.text.now) c.in_ok-number.number c.in_ok-number.ensures.value
    ∙ ap (option_map capped_expression) (sym (cond-true (is_label name) (option_map (λ n. plus name (signed_number negative n)) (unsigned_of c.args.text.now)) None yes))
