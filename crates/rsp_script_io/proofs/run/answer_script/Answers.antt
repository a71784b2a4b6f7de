use Rattle.std.proofs.Common.{[], refl, arith, length-take}
use Rattle.std.specs.Io.KnownBytes.{Consumes, IsAtEnd}
use Rattle.std.proofs.lemmas.Result.{err_from_is_err_and}
use Rattle.rsp_script_io.proofs.Runs.{if_some, left_answer, read_cut, progress-more, progress-within, progress-ended, progress-front, progress-few, progress-past, progress-over, progress-long, progress-end, progress-end_front, progress-short, progress-end_short}
use Rattle.rsp_script_io.proofs.run.answer_script.Goals as goal

-- a read failed
pub returns-in_default-clause-left : goal.returns-in_default-clause-left
returns-in_default-clause-left g c =
    progress-ended g.S.LineHandler.answer_to g.S.LineHandler.end_reply g.met.S.LineHandler.alike c.loop-n.invariant.progress c.in_default.ensures.told (omega arith)

pub returns-in_default-clause-few : goal.returns-in_default-clause-few
returns-in_default-clause-few g c =
    progress-few g.S.LineHandler.answer_to g.S.LineHandler.end_reply g.met.S.LineHandler.alike _ [] c.loop-n.invariant.progress c.in_default.ensures.told (omega arith)

-- the end of input
pub returns-in_err-answer_end-clause-few : goal.returns-in_err-answer_end-clause-few
returns-in_err-answer_end-clause-few g c =
    let told : Consumes (g.R.Source.rest c.loop-n.source) (g.R.Source.rest c.read.new.self) [] = rw c.if-n-eq0.true at c.in-Ok.ensures.told in
    progress-few g.S.LineHandler.answer_to g.S.LineHandler.end_reply g.met.S.LineHandler.alike _ [] c.loop-n.invariant.progress told (omega arith)

pub returns-in_err-answer_end-clause-left : goal.returns-in_err-answer_end-clause-left
returns-in_err-answer_end-clause-left g c =
    let told : Consumes (g.R.Source.rest c.loop-n.source) (g.R.Source.rest c.read.new.self) [] = rw c.if-n-eq0.true at c.in-Ok.ensures.told in
    let ended : IsAtEnd (g.R.Source.rest c.read.new.self) = c.in-Ok.ensures.end c.if-n-eq0.true
    (omega (arith, c.read.auto.buf, length-take c.min-most.result c.loop-n.buffer)) in
    let p = err_from_is_err_and c.from_residual.result c.from_residual.ensures.1 in
    rw (p.1, p.2) (left_answer _ _ c.in_err-answer_end.ensures.cause
    (progress-end_front g.S.LineHandler.answer_to g.S.LineHandler.end_reply g.met.S.LineHandler.alike c.loop-n.invariant.progress told ended (omega arith)
    c.in_err-answer_end.ensures.prefix))

pub returns-in_err-answer_end-clause-memory : goal.returns-in_err-answer_end-clause-memory
returns-in_err-answer_end-clause-memory g c =
    let told : Consumes (g.R.Source.rest c.loop-n.source) (g.R.Source.rest c.read.new.self) [] = rw c.if-n-eq0.true at c.in-Ok.ensures.told in
    let ended : IsAtEnd (g.R.Source.rest c.read.new.self) = c.in-Ok.ensures.end c.if-n-eq0.true
    (omega (arith, c.read.auto.buf, length-take c.min-most.result c.loop-n.buffer)) in
    let p = err_from_is_err_and c.from_residual.result c.from_residual.ensures.1 in
    rw (p.1, p.2) (λ short. progress-end_short g.S.LineHandler.answer_to g.S.LineHandler.end_reply g.met.S.LineHandler.alike g.S.LineHandler.lacks_memory g.met.S.LineHandler.lack_alike c.loop-n.invariant.progress told ended (omega arith)
    (c.in_err-answer_end.ensures.memory short))

pub returns-then-n-eq0-clause-fits : goal.returns-then-n-eq0-clause-fits
returns-then-n-eq0-clause-fits g c =
    let told : Consumes (g.R.Source.rest c.loop-n.source) (g.R.Source.rest c.read.new.self) [] = rw c.if-n-eq0.true at c.in-Ok.ensures.told in
    let ended : IsAtEnd (g.R.Source.rest c.read.new.self) = c.in-Ok.ensures.end c.if-n-eq0.true
    (omega (arith, c.read.auto.buf, length-take c.min-most.result c.loop-n.buffer)) in
    if_some _ _ (λ script e. (progress-end g.S.LineHandler.answer_to g.S.LineHandler.end_reply g.met.S.LineHandler.alike _ _ script c.loop-n.invariant.progress told ended
    (omega arith) e c.in_ok-answer_end.ensures.written c.in_ok-answer_end.ensures.session).0)

pub returns-then-n-eq0-clause-written : goal.returns-then-n-eq0-clause-written
returns-then-n-eq0-clause-written g c =
    let told : Consumes (g.R.Source.rest c.loop-n.source) (g.R.Source.rest c.read.new.self) [] = rw c.if-n-eq0.true at c.in-Ok.ensures.told in
    let ended : IsAtEnd (g.R.Source.rest c.read.new.self) = c.in-Ok.ensures.end c.if-n-eq0.true
    (omega (arith, c.read.auto.buf, length-take c.min-most.result c.loop-n.buffer)) in
    if_some _ _ (λ script e. (progress-end g.S.LineHandler.answer_to g.S.LineHandler.end_reply g.met.S.LineHandler.alike _ _ script c.loop-n.invariant.progress told ended
    (omega arith) e c.in_ok-answer_end.ensures.written c.in_ok-answer_end.ensures.session).1)

pub returns-then-n-eq0-clause-session : goal.returns-then-n-eq0-clause-session
returns-then-n-eq0-clause-session g c =
    let told : Consumes (g.R.Source.rest c.loop-n.source) (g.R.Source.rest c.read.new.self) [] = rw c.if-n-eq0.true at c.in-Ok.ensures.told in
    let ended : IsAtEnd (g.R.Source.rest c.read.new.self) = c.in-Ok.ensures.end c.if-n-eq0.true
    (omega (arith, c.read.auto.buf, length-take c.min-most.result c.loop-n.buffer)) in
    if_some _ _ (λ script e. (progress-end g.S.LineHandler.answer_to g.S.LineHandler.end_reply g.met.S.LineHandler.alike _ _ script c.loop-n.invariant.progress told ended
    (omega arith) e c.in_ok-answer_end.ensures.written c.in_ok-answer_end.ensures.session).2)

pub returns-then-n-eq0-clause-few : goal.returns-then-n-eq0-clause-few
returns-then-n-eq0-clause-few g c =
    let told : Consumes (g.R.Source.rest c.loop-n.source) (g.R.Source.rest c.read.new.self) [] = rw c.if-n-eq0.true at c.in-Ok.ensures.told in
    progress-few g.S.LineHandler.answer_to g.S.LineHandler.end_reply g.met.S.LineHandler.alike _ [] c.loop-n.invariant.progress told (omega arith)

-- a piece
pub returns-in_err-answer_piece-clause-few : goal.returns-in_err-answer_piece-clause-few
returns-in_err-answer_piece-clause-few g c =
    progress-few g.S.LineHandler.answer_to g.S.LineHandler.end_reply g.met.S.LineHandler.alike _ _ c.loop-n.invariant.progress c.in-Ok.ensures.told
    (omega (arith, c.in-Ok.ensures.bound, length-take c.in-Ok.n c.read.new.buf, length-take c.min-most.result c.loop-n.buffer))

pub returns-in_err-answer_piece-clause-left : goal.returns-in_err-answer_piece-clause-left
returns-in_err-answer_piece-clause-left g c =
    let p = err_from_is_err_and c.from_residual-in_err-answer_piece.result c.from_residual-in_err-answer_piece.ensures.1 in
    rw (p.1, p.2) (left_answer _ _ c.in_err-answer_piece.ensures.cause
    (progress-front g.S.LineHandler.answer_to g.S.LineHandler.end_reply g.met.S.LineHandler.alike _ _ c.loop-n.invariant.progress c.in-Ok.ensures.told c.room-room.ensures.limit
    (read_cut c.read.new.buf _ c.in-Ok.n _ c.min-within.result _ (omega (arith, c.in-Ok.ensures.bound, c.read.auto.buf)) c.min-within.ensures c.room-room.ensures.value)
    c.in_err-answer_piece.ensures.prefix))

pub returns-in_err-answer_piece-clause-memory : goal.returns-in_err-answer_piece-clause-memory
returns-in_err-answer_piece-clause-memory g c =
    let p = err_from_is_err_and c.from_residual-in_err-answer_piece.result c.from_residual-in_err-answer_piece.ensures.1 in
    rw (p.1, p.2) (λ short. progress-short g.S.LineHandler.answer_to g.S.LineHandler.end_reply g.met.S.LineHandler.alike g.S.LineHandler.lacks_memory _ _ g.met.S.LineHandler.lack_alike c.loop-n.invariant.progress c.in-Ok.ensures.told c.room-room.ensures.limit
    (read_cut c.read.new.buf _ c.in-Ok.n _ c.min-within.result _ (omega (arith, c.in-Ok.ensures.bound, c.read.auto.buf)) c.min-within.ensures c.room-room.ensures.value)
    (c.in_err-answer_piece.ensures.memory short))

pub loop-n-preserved : goal.loop-n-preserved
loop-n-preserved g c = record {
  progress = progress-within g.S.LineHandler.answer_to g.S.LineHandler.end_reply g.met.S.LineHandler.alike _ _ c.loop-n.invariant.progress c.in-Ok.ensures.told
      (omega (arith, c.if-n-room.false, c.room-room.ensures.value, length-take c.in-Ok.n c.read.new.buf)) c.room-room.ensures.limit
      (read_cut c.read.new.buf _ c.in-Ok.n _ c.min-within.result _ (omega (arith, c.in-Ok.ensures.bound, c.read.auto.buf)) c.min-within.ensures c.room-room.ensures.value)
      c.in_ok-answer_piece.ensures.bytes c.in_ok-answer_piece.ensures.answers;
  reads = omega (arith, c.in-Ok.ensures.counted, c.loop-n.invariant.reads);
  writes = omega (arith, c.in_ok-answer_piece.ensures.count, c.loop-n.invariant.writes);
}

-- the byte past the limit was read
pub returns-then-n-room-clause-fits : goal.returns-then-n-room-clause-fits
returns-then-n-room-clause-fits g c = if_some _ _ (λ _ _. tt)

pub returns-then-n-room-clause-written : goal.returns-then-n-room-clause-written
returns-then-n-room-clause-written g c = if_some _ _ (λ _ _. tt)

pub returns-then-n-room-clause-session : goal.returns-then-n-room-clause-session
returns-then-n-room-clause-session g c = if_some _ _ (λ _ _. tt)

pub returns-then-n-room-clause-long : goal.returns-then-n-room-clause-long
returns-then-n-room-clause-long g c =
    progress-over g.S.LineHandler.answer_to g.S.LineHandler.end_reply g.met.S.LineHandler.alike _ _ _ c.loop-n.invariant.progress c.in-Ok.ensures.told
    (omega (arith, c.if-n-room.true, c.room-room.ensures.value, c.room-room.ensures.limit, length-take c.in-Ok.n c.read.new.buf, c.in-Ok.ensures.bound, c.read.auto.buf))

pub returns-then-n-room-clause-left : goal.returns-then-n-room-clause-left
returns-then-n-room-clause-left g c =
    progress-long g.S.LineHandler.answer_to g.S.LineHandler.end_reply g.met.S.LineHandler.alike
    (progress-more g.S.LineHandler.answer_to g.S.LineHandler.end_reply g.met.S.LineHandler.alike _ _ c.loop-n.invariant.progress c.in-Ok.ensures.told refl c.room-room.ensures.limit
    (read_cut c.read.new.buf _ c.in-Ok.n _ c.min-within.result _ (omega (arith, c.in-Ok.ensures.bound, c.read.auto.buf)) c.min-within.ensures c.room-room.ensures.value)
    c.in_ok-answer_piece.ensures.answers)
    (omega (arith, c.if-n-room.true, c.room-room.ensures.value, length-take c.in-Ok.n c.read.new.buf, c.in-Ok.ensures.bound, c.read.auto.buf))

pub returns-then-n-room-clause-few : goal.returns-then-n-room-clause-few
returns-then-n-room-clause-few g c =
    progress-few g.S.LineHandler.answer_to g.S.LineHandler.end_reply g.met.S.LineHandler.alike _ _ c.loop-n.invariant.progress c.in-Ok.ensures.told
    (omega (arith, c.in-Ok.ensures.bound, length-take c.in-Ok.n c.read.new.buf, length-take c.min-most.result c.loop-n.buffer))

pub returns-then-n-room-clause-past : goal.returns-then-n-room-clause-past
returns-then-n-room-clause-past g c =
    λ _. progress-past g.S.LineHandler.answer_to g.S.LineHandler.end_reply g.met.S.LineHandler.alike _ _ c.loop-n.invariant.progress c.in-Ok.ensures.told
    (omega (
      arith,
      c.if-n-room.true,
      c.room-room.ensures.value,
      c.room-room.ensures.limit,
      c.min-most.ensures,
      c.in-Ok.ensures.bound,
      length-take c.in-Ok.n c.read.new.buf,
      length-take c.min-most.result c.loop-n.buffer,
    ))
