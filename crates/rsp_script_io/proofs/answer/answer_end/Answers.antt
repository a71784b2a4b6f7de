use Rattle.std.proofs.Common.{◌≡◌, ◌++◌, ◌∙◌, ap}
use Rattle.rsp_script_io.specs.Lines.{last_line}
use Rattle.rsp_script_io.specs.Replies.{replies, final}
use Rattle.rsp_script_io.proofs.Prefixes.{prefix-along, prefix-then}
use Rattle.rsp_script_io.proofs.answer.answer_end.Goals as goal

pub returns-in_default-write_all-2-clause-prefix : goal.returns-in_default-write_all-2-clause-prefix
returns-in_default-write_all-2-clause-prefix g c =
    let first : c.bytes.result.now ≡ replies g.S.LineHandler.answer_to (last_line c.args.feed.now.line) c.args.session.now =
    c.bytes.ensures.value ∙ c.in-Ok.ensures.reply in
    let second : c.bytes-2.result.now ≡ g.S.LineHandler.end_reply (final g.S.LineHandler.answer_to (last_line c.args.feed.now.line) c.args.session.now) =
    c.bytes-2.ensures.value ∙ c.put_end_reply.ensures ∙ ap g.S.LineHandler.end_reply c.in-Ok.ensures.session in
    prefix-along (ap (λ a. a ++ c.bytes-2.result.now) first ∙ ap (λ b. replies g.S.LineHandler.answer_to (last_line c.args.feed.now.line) c.args.session.now ++ b) second)
    (prefix-then c.bytes.result.now c.in-Ok-write_all.ensures.written c.in_default-write_all-2.ensures.prefix)
