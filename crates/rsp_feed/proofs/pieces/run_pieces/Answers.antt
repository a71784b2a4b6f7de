use Rattle.std.proofs.Common.{◌≡◌, ◌++◌, length, ap, arith, ◌∙◌, append_assoc}
use Rattle.std.proofs.lemmas.Grind.{common_steps}
use Rattle.std.proofs.lemmas.List.{take_rest}
use Rattle.rsp_feed.specs.Bench.{last_line_reply}
use Rattle.rsp_feed.proofs.Cuts.{fed-none, fed-more, fed-all}
use Rattle.rsp_feed.proofs.pieces.run_pieces.Goals as goal

pub loop-rest-init : goal.loop-rest-init
loop-rest-init c = fed-none _ _ _ _ c.in-Ok.ensures.ok c.new-replies.ensures.items

pub loop-rest-preserved : goal.loop-rest-preserved
loop-rest-preserved c = rw (take_rest c.loop-rest.rest.now c.in_ok-n.n)
    (fed-more c.in_ok-n.n c.min-most.result c.in_ok-n.ensures.some c.in_ok-n.ensures.limit c.in_ok-append.ensures.ok (c.bytes.ensures.value ∙ c.in_ok-n.ensures.reply)
    c.in_ok-n.ensures.next c.loop-rest.invariant)

pub returns-clause-replies : goal.returns-clause-replies
returns-clause-replies c =
    let none : length c.loop-rest.rest.now ≡ 0 = grind (arith, common_steps, c.is_empty.ensures, c.loop-rest-test.false) in
    c.in_ok-append-3.ensures.ok ∙ ap (λ f. c.append-2.new.replies.items ++ f) c.bytes-3.ensures.value
    ∙ ap (λ r. r ++ c.end.new.fault) (c.in_ok-append-2.ensures.ok ∙ ap (λ r. c.loop-rest.replies.items ++ r) c.bytes-2.ensures.value)
    ∙ append_assoc c.loop-rest.replies.items c.end.new.reply c.end.new.fault
    ∙ ap (λ r. c.loop-rest.replies.items ++ (r ++ c.end.new.fault)) c.in_ok-end.ensures.reply
    ∙ ap (λ f. c.loop-rest.replies.items ++ (last_line_reply c.loop-rest.bench ++ f)) c.in_ok-end.ensures.fault
    ∙ (fed-all c.args.image c.in-Ok.ensures.ok none c.loop-rest.invariant).0

pub returns-clause-session : goal.returns-clause-session
returns-clause-session c =
    let none : length c.loop-rest.rest.now ≡ 0 = grind (arith, common_steps, c.is_empty.ensures, c.loop-rest-test.false) in
    c.into_session.ensures ∙ ap (λ b. b.session) c.in_ok-end.ensures.next ∙ (fed-all c.args.image c.in-Ok.ensures.ok none c.loop-rest.invariant).1
