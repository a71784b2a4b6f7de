use Rattle.std.proofs.Common.{◌∙◌}
use Rattle.std.specs.String.{string_bytes}
use Rattle.rsp_explain.proofs.SaidFirst.{said_all, first_said}
use Rattle.rsp_explain.proofs.texts.explain_text.Goals as goal

pub returns-clause-first : goal.returns-clause-first
returns-clause-first c =
    let head = c.args.head in let before = c.args.before in let origin = c.args.origin in let text = c.args.text.now in
    let found = c.in_ok-found.ensures in let said = string_bytes c.push_count.new.said in
    first_said head before origin text said (
    said_all head before origin text (string_bytes c.in_ok-said.said) said c.as_slice.result.now c.in_ok-found.found.count c.saturating_sub.result
    (c.as_slice.ensures.value ∙ found.first) found.count c.if-found-eq0.false c.saturating_sub.ensures c.in_ok-said.ensures c.in_ok-push_count.ensures
    )
