use Rattle.std.proofs.Common.{◌≡◌, ◌+◌, ◌-◌, subst, inl, inr, arith, ℕ}
use Rattle.rsp_machine.specs.Laws.{steps_of}
use Rattle.rsp_debug.specs.Runs.{AreKept}
use Rattle.rsp_debug.proofs.Reasons.{stuck}
use Rattle.rsp_debug.proofs.Stretches.{no-one, some-one, after-zero, kept-then}
use Rattle.rsp_debug.proofs.RunLoop.{moves-pass, move-next, come-more, IsOver, over-none, go-none, run-over}
use Rattle.rsp_debug.proofs.run.run_to.Goals.{then-loop-left-test+else-is_none, else-loop-left-test, then-loop-left-test+then-is_none+then-steps-eq0}
use Rattle.rsp_debug.proofs.run.run_to.Goals as goal

pub loop-left-init : goal.loop-left-init
loop-left-init g c =
    let x = c.args.conditions.now in
    record {
      within = omega arith;
      going = go-none x.breaks.now x.snapshots.now x.moves c.args.n c.args.machine.now c.args.history.now (c.args.n - c.args.n) (omega arith) c.requires.same;
    }

pub loop-left-preserved : goal.loop-left-preserved
loop-left-preserved g c =
    let n = c.args.n in let s = c.args.machine.now in let x = c.args.conditions.now in
    let l = c.loop-left in let i = l.invariant in let e = c.stretch-steps.ensures in let j = c.stretch-steps.result in let t = c.stretch-steps.new.machine in
    let count : n - (l.left - j) ≡ n - l.left + j = omega (arith, i.within, e.within) in
    record {
      within = omega (arith, i.within);
      going = record {
        come = come-more x.breaks.now x.snapshots.now x.moves n s (g.U.Until.ends c.args.until.now) (n - l.left) j (n - (l.left - j)) l.machine t l.found c.hit-found.result c.requires.asks
            i.going.come (no-one l.found c.is_none.result c.is_none.ensures c.if-is_none.true) e.after e.asked
            (λ q h. moves-pass (g.U.Until.refuses c.args.until.now) x.moves (steps_of q l.machine) c.requires.refuses (e.permitted q h)) count (omega arith) (omega (arith, c.if-steps-eq0.false)) c.hit-found.ensures;
        kept = kept-then (n - l.left) j (n - (l.left - j)) s l.machine t c.args.history.now l.history c.stretch-steps.new.self i.going.kept (record { past = e.past; depth = e.depth }) i.going.come.after.reached count;
      };
    }

pub returns : goal.returns
returns g c =
    let n = c.args.n in let x = c.args.conditions.now in let l = c.loop-left in let k = n - l.left in
    let over : IsOver x.moves n k l.machine c.loop-left-test.machine l.history c.loop-left-test.history l.found = elim c.loop-left-test.branch [
      | then-loop-left-test+else-is_none w ↦
          rw (w.machine-is, w.history-is) (over-none x.moves n k l.machine l.history l.found (λ none free short. some-one l.found w.is_none.result _ w.is_none.ensures w.if-is_none.false none))
      | else-loop-left-test w ↦
          rw (w.machine-is, w.history-is) (over-none x.moves n k l.machine l.history l.found (λ none free short. absurd (omega (arith, w.loop-left-test.false, short))))
      | then-loop-left-test+then-is_none+then-steps-eq0 w ↦
          let made = w.stretch-steps in let t = made.new.machine in let e = made.ensures in let zero = w.if-steps-eq0.true in
          let kept : AreKept made.result l.machine t l.history made.new.self = record { past = e.past; depth = e.depth } in
          rw (w.machine-is, w.history-is) (record {
            same = after-zero made.result l.machine t zero e.after;
            kept = subst (λ (j : ℕ). AreKept j l.machine t l.history made.new.self) zero kept;
            why = λ none free short. elim (e.stuck zero) [
              | inl none ↦ absurd (stuck t none free)
              | inr refused ↦ move-next (g.U.Until.refuses c.args.until.now) x.moves t c.requires.refuses refused free
            ];
          })
    ] in
    run-over x.breaks.now x.snapshots.now x.moves n c.args.machine.now c.args.history.now k l.machine _ l.history _ l.found l.invariant.going over c.unwrap_or.result c.stopped_here.result c.stopped_here.ensures c.unwrap_or.ensures
