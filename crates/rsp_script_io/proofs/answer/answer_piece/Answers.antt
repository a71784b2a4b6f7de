use Rattle.std.proofs.Common.{ap, arith, refl, length-drop, length-take, ◌∙◌}
use Rattle.std.proofs.lemmas.List.{take_rest}
use Rattle.rsp_script_io.proofs.PieceAnswers.{leads-more, leads-front, done-more, done-short}
use Rattle.rsp_script_io.proofs.Prefixes.{prefix-along}
use Rattle.rsp_script_io.proofs.answer.answer_piece.Goals as goal

pub returns-in_default-clause-prefix : goal.returns-in_default-clause-prefix
returns-in_default-clause-prefix g c =
    leads-front g.S.LineHandler.answer_to g.met.S.LineHandler.alike c.in-Ok.n c.args.piece.now c.loop-rest.rest.now c.loop-rest.invariant.leads
    c.in-Ok.ensures.session refl (prefix-along (c.bytes.ensures.value ∙ c.in-Ok.ensures.reply) c.in_default.ensures.prefix)

pub returns-in-Err-clause-memory : goal.returns-in-Err-clause-memory
returns-in-Err-clause-memory g c _ =
    done-short g.S.LineHandler.answer_to g.met.S.LineHandler.alike g.S.LineHandler.lacks_memory _ g.met.S.LineHandler.lack_alike c.loop-rest.invariant.done refl
    c.in-Err.ensures.lacks

pub loop-rest-preserved : goal.loop-rest-preserved
loop-rest-preserved g c = record {
  leads = rw (take_rest c.loop-rest.rest.now c.in-Ok.n)
      (leads-more g.S.LineHandler.answer_to g.met.S.LineHandler.alike c.in-Ok.n c.args.piece.now c.loop-rest.rest.now c.loop-rest.invariant.leads
      (rw (c.bytes.ensures.value ∙ c.in-Ok.ensures.reply) at c.in-Ok-write_all.ensures.written) c.in-Ok.ensures.session (ap (λ f. f.line) c.in-Ok.ensures.fed));
  done = rw (take_rest c.loop-rest.rest.now c.in-Ok.n)
      (done-more g.S.LineHandler.answer_to g.met.S.LineHandler.alike c.in-Ok.n c.args.piece.now c.loop-rest.rest.now c.loop-rest.invariant.done
      (rw (c.bytes.ensures.value ∙ c.in-Ok.ensures.reply) at c.in-Ok-write_all.ensures.written) c.in-Ok.ensures.session (ap (λ f. f.line) c.in-Ok.ensures.fed));
  within = omega (arith, length-drop c.in-Ok.n c.loop-rest.rest.now, c.loop-rest.invariant.within);
  bytes = omega (
    arith,
    ap (λ f. f.count) c.in-Ok.ensures.fed,
    length-take c.in-Ok.n c.loop-rest.rest.now,
    length-drop c.in-Ok.n c.loop-rest.rest.now,
    c.in-Ok.ensures.some,
    c.loop-rest.invariant.bytes,
  );
  count = omega (arith, c.in-Ok-write_all.ensures.same, c.loop-rest.invariant.count);
}
