use Rattle.std.proofs.Common.{◌≡◌, ◌<◌, length, take, ap, sym, ◌∙◌, arith}
use Rattle.std.specs.List.{position_or_len}
use Rattle.std.proofs.lemmas.List.{take_all}
use Rattle.rsp_script_io.specs.Lines.{is_newline, kept}
use Rattle.rsp_script_io.proofs.Kept.{kept-back}
use Rattle.rsp_script_io.proofs.PieceAnswers.{replies-open, final-open, open-all, reply-ended, next-ended, open-none, lacks-ended}
use Rattle.rsp_script_io.proofs.feed.take_line.Goals as goal

pub returns-then-end-bytes-clause-reply : goal.returns-then-end-bytes-clause-reply
returns-then-end-bytes-clause-reply g c =
    rw (take_all c.len_before-end.result c.args.bytes.now (omega (arith, c.if-end-bytes.true)))
    (c.clear.ensures ∙ replies-open g.S.LineHandler.answer_to g.met.S.LineHandler.alike c.args.line.now c.args.bytes.now c.args.session.now
    (sym c.len_before-end.ensures.value ∙ c.if-end-bytes.true))

pub returns-then-end-bytes-clause-session : goal.returns-then-end-bytes-clause-session
returns-then-end-bytes-clause-session g c =
    rw (take_all c.len_before-end.result c.args.bytes.now (omega (arith, c.if-end-bytes.true)))
    (final-open g.S.LineHandler.answer_to g.met.S.LineHandler.alike c.args.line.now c.args.bytes.now c.args.session.now
    (sym c.len_before-end.ensures.value ∙ c.if-end-bytes.true))

pub returns-then-end-bytes-clause-line : goal.returns-then-end-bytes-clause-line
returns-then-end-bytes-clause-line g c =
    let none : position_or_len is_newline c.args.bytes.now ≡ length c.args.bytes.now = sym c.len_before-end.ensures.value ∙ c.if-end-bytes.true in
    rw (take_all c.len_before-end.result c.args.bytes.now (omega (arith, c.if-end-bytes.true)))
    (rw c.len_before-end.ensures.value at c.push.ensures ∙ ap kept (open-all c.args.line.now c.args.bytes.now none))

pub returns-in-Ok-clause-reply : goal.returns-in-Ok-clause-reply
returns-in-Ok-clause-reply g c =
    let pushed = rw c.len_before-end.ensures.value at c.push.ensures in
    let lt : position_or_len is_newline c.args.bytes.now < length c.args.bytes.now = omega (arith, c.if-end-bytes.false, c.len_before-end.ensures.value, c.len_before-end.ensures.within) in
    rw c.len_before-end.ensures.value (c.in-Ok.ensures.reply
    ∙ reply-ended g.S.LineHandler.answer_to g.met.S.LineHandler.alike c.args.line.now c.args.bytes.now c.ended.result.now c.args.session.now lt (rw pushed at c.ended.ensures))

pub returns-in-Ok-clause-session : goal.returns-in-Ok-clause-session
returns-in-Ok-clause-session g c =
    let pushed = rw c.len_before-end.ensures.value at c.push.ensures in
    let lt : position_or_len is_newline c.args.bytes.now < length c.args.bytes.now = omega (arith, c.if-end-bytes.false, c.len_before-end.ensures.value, c.len_before-end.ensures.within) in
    rw c.len_before-end.ensures.value (c.in-Ok.ensures.next
    ∙ next-ended g.S.LineHandler.answer_to g.met.S.LineHandler.alike c.args.line.now c.args.bytes.now c.ended.result.now c.args.session.now lt (rw pushed at c.ended.ensures))

pub returns-in-Ok-clause-line : goal.returns-in-Ok-clause-line
returns-in-Ok-clause-line g c =
    let lt : position_or_len is_newline c.args.bytes.now < length c.args.bytes.now = omega (arith, c.if-end-bytes.false, c.len_before-end.ensures.value, c.len_before-end.ensures.within) in
    rw c.len_before-end.ensures.value (c.clear-in-Ok.ensures ∙ open-none c.args.line.now c.args.bytes.now lt)

pub returns-in-Err-clause-same : goal.returns-in-Err-clause-same
returns-in-Err-clause-same g c =
    c.truncate.ensures ∙ ap (take c.len-before.result) c.push.ensures
    ∙ kept-back c.args.line.now _ c.len-before.result c.len-before.ensures.value c.len-before.ensures.most

pub returns-in-Err-clause-lacks : goal.returns-in-Err-clause-lacks
returns-in-Err-clause-lacks g c =
    let pushed = rw c.len_before-end.ensures.value at c.push.ensures in
    let lt : position_or_len is_newline c.args.bytes.now < length c.args.bytes.now = omega (arith, c.if-end-bytes.false, c.len_before-end.ensures.value, c.len_before-end.ensures.within) in
    lacks-ended g.S.LineHandler.answer_to g.met.S.LineHandler.alike g.S.LineHandler.lacks_memory g.met.S.LineHandler.lack_alike c.args.line.now c.args.bytes.now c.ended.result.now c.args.session.now lt
    (rw pushed at c.ended.ensures) c.in-Err.ensures.lacks
