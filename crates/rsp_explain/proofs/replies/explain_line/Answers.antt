use Rattle.std.proofs.Common.{ap, ◌∙◌}
use Rattle.rsp_explain.specs.Replies.{readable, line_said}
use Rattle.rsp_explain.proofs.replies.explain_line.Goals as goal

pub returns : goal.returns
returns c =
    let why = c.as_str-why.result.now in
    let shown = c.as_str-text.ensures.value ∙ c.in_ok-shown.ensures ∙ ap readable c.without_newline.ensures in
    (why, c.in_ok-said.ensures ∙ ap (λ text. line_said c.args.head.head c.args.head.number text why) shown)
