use Rattle.std.proofs.Common.{◌≡◌, ◌∙◌, ◌&&◌, ◌||◌, not, ◌+◌, ◌-◌, ◌<◌, false, length, get_or, ap, sym, inl, inr, arith}
use Rattle.rsp_decode.specs.Table.{inst_of}
use Rattle.rsp_machine.specs.State.{State}
use Rattle.rsp_machine.specs.ProgramCounters.{ProgramCounters, with_counters}
use Rattle.rsp_machine.specs.Laws.{steps_of, done_steps}
use Rattle.rsp_machine.specs.Transfers.{starts_dma_at}
use Rattle.rsp_machine.specs.Until.{ends_after, permitted}
use Rattle.rsp_machine.proofs.OneStep.{step_halted}
use Rattle.rsp_machine.proofs.LoopSteps.{turn-of, goes-by, stops-by, turn-running, turn-clear, turn-goes, turn-stops, turn-ends, executed-none, told-nothing, upto, run-none, run-more}
use Rattle.rsp_machine.proofs.machine.Machine.run_loop.Goals.{else-loop-made-test, then-loop-made-test+in_default, then-loop-made-test+in-Some+then-not-end_step, then-loop-made-test+in-Some+else-not-end_step+then-ends}
use Rattle.rsp_machine.proofs.machine.Machine.run_loop.Goals as goal

pub returns-then-halted-clause-made : goal.returns-then-halted-clause-made
returns-then-halted-clause-made g c = (run-none g.K.Recorder.saves g.K.Recorder.slot (g.U.Until.refuses c.args.until.now) c.args.self.now c.args.slots.now).made

pub returns-then-halted-clause-told : goal.returns-then-halted-clause-told
returns-then-halted-clause-told g c = (run-none g.K.Recorder.saves g.K.Recorder.slot (g.U.Until.refuses c.args.until.now) c.args.self.now c.args.slots.now).told

pub returns-then-halted-clause-ends : goal.returns-then-halted-clause-ends
returns-then-halted-clause-ends g c less =
    let halted = ap (λ (x : State). x.sp.halted) (sym c.self.view_is) ∙ sym c.halted.ensures ∙ c.if-halted.true in
    inl (ap (λ x. done_steps x.0) (step_halted c.args.self.now halted))

pub loop-made-init : goal.loop-made-init
loop-made-init g c =
    let s = c.args.self.now in
    record {
      within = omega arith;
      run = rw (c.counters-counters.ensures) (run-none g.K.Recorder.saves g.K.Recorder.slot (g.U.Until.refuses c.args.until.now) s c.args.slots.now);
      goes = ap (λ (x : State). x.sp.halted) (sym c.self.view_is) ∙ sym c.halted.ensures ∙ c.if-halted.false;
      free = λ clear. ap (λ (x : State). x.sp.single_step) (sym c.self.view_is) ∙ sym c.single_step-single.ensures ∙ clear;
      word = c.word_at-word.ensures;
      before = λ i h. absurd (omega (arith, h));
      asked = λ i h. absurd (omega (arith, h));
    }

pub loop-made-preserved : goal.loop-made-preserved
loop-made-preserved g c =
    let l = c.loop-made in let i = l.invariant in let o = c.args.self.now in let k = g.K.Recorder in let single = c.single_step-single.result in
    let ends = g.U.Until.ends c.args.until.now in let refuses = g.U.Until.refuses c.args.until.now in let e = c.in-Some.tests in let next = c.word_at-word-in-loop-made in
    let q = c.execute.new.counters in let v = c.execute.new.self in let m = c.end_step.new.self in let u = with_counters q m in let x = c.execute.new.recorder in
    let old = get_or l.slots c.slot.result c.index-slots-slot.result in
    let turn = turn-of k.saves refuses l.word l.counters q l.self v m c.execute.result e single old x
    i.goes i.word c.execute.ensures.answer c.execute.ensures.state c.in-Some.is i.free c.end_step.ensures.state c.execute.ensures.recorder c.vector_ranges.ensures in
    let goes = goes-by (e.sp || single) m.sp.halted (not (k.ends_at_dma && e.dma)) c.end_step.result c.end_step.ensures.goes c.if-not-end_step.false in
    let running = turn-running turn (elim goes [ inl none ↦ inl none | inr on ↦ inr on.0 ]) in
    let inside : c.slot.result < length l.slots = omega (arith, c.slot.ensures, c.requires.slots l.made c.loop-made-test.true, i.run.told.len) in
    let passes = turn-ends turn ends c.get.result next.result (c.get.ensures.value ∙ ap (λ (p : ProgramCounters). p.pc) c.counters.view_is) next.ensures ∙ sym c.ends.ensures ∙ c.if-ends.false in
    record {
      within = omega (arith, c.loop-made-test.true);
      run = run-more k.saves k.slot refuses l.made c.slot.result o _ _ u e single c.args.slots.now l.slots old x i.run turn c.slot.ensures inside;
      goes = running;
      free = λ clear. turn-clear turn running;
      word = next.ensures;
      before = λ j h at_dma. upto (λ n. starts_dma_at (steps_of n o) ≡ false) l.made j (λ n less. i.before n less at_dma) (rw (← i.run.made.state) (turn-goes turn k.ends_at_dma goes at_dma)) h;
      asked = λ j h. upto (λ n. ends_after ends (steps_of n o) ≡ false) l.made j i.asked (rw (← i.run.made.state) passes) h;
    }

pub returns : goal.returns
returns g c =
    let l = c.loop-made in let i = l.invariant in let o = c.args.self.now in let k = g.K.Recorder in let single = c.single_step-single.result in
    let ends = g.U.Until.ends c.args.until.now in let refuses = g.U.Until.refuses c.args.until.now in
    elim c.loop-made-test.branch [
      | else-loop-made-test w ↦ rw (c.set_counters.ensures, w.made-is, w.counters-is, w.self-is, w.slots-is) (record {
        within = i.within;
        made = i.run.made;
        told = i.run.told;
        before = λ j h. i.before j (omega (arith, h));
        asked = λ j h. i.asked j (omega (arith, h));
        permitted = i.run.permitted;
        ends = λ less. absurd (omega (arith, less, w.loop-made-test.false));
      })
      | then-loop-made-test+in_default w ↦
          let answer = sym w.in_default.is ∙ w.execute.ensures.answer in
          let none = executed-none refuses l.word (with_counters l.counters l.self) (with_counters w.execute.new.counters w.execute.new.self) i.goes i.word answer w.execute.ensures.state in
          let untold = told-nothing k.saves (permitted refuses (inst_of l.word)) (with_counters l.counters l.self) l.slots w.slot.result w.index-slots-slot.result w.execute.new.recorder answer w.execute.ensures.recorder in
          rw (c.set_counters.ensures, w.made-is, w.counters-is, w.self-is, w.slots-is, none.0, untold) (record {
            within = i.within;
            made = i.run.made;
            told = i.run.told;
            before = λ j h. i.before j (omega (arith, h));
            asked = λ j h. i.asked j (omega (arith, h));
            permitted = i.run.permitted;
            ends = λ less. elim none.1 [ inl stuck ↦ inl stuck | inr refused ↦ inr (inl refused) ];
          })
      | then-loop-made-test+in-Some+then-not-end_step w ↦
          let q = w.execute.new.counters in let m = w.end_step.new.self in let e = w.in-Some.tests in
          let old = get_or l.slots w.slot.result w.index-slots-slot.result in
          let turn = turn-of k.saves refuses l.word l.counters q l.self w.execute.new.self m w.execute.result e single old w.execute.new.recorder
          i.goes i.word w.execute.ensures.answer w.execute.ensures.state w.in-Some.is i.free w.end_step.ensures.state w.execute.ensures.recorder w.vector_ranges.ensures in
          let inside : w.slot.result < length l.slots = omega (arith, w.slot.ensures, c.requires.slots l.made w.loop-made-test.true, i.run.told.len) in
          let run = run-more k.saves k.slot refuses l.made w.slot.result o _ _ (with_counters q m) e single c.args.slots.now l.slots old _ i.run turn w.slot.ensures inside in
          let last : l.made + 1 - 1 ≡ l.made = omega arith in
          rw (c.set_counters.ensures, w.made-is, w.counters-is, w.self-is, w.slots-is) (record {
            within = omega (arith, w.loop-made-test.true);
            made = run.made;
            told = run.told;
            before = λ j h. i.before j (omega (arith, h));
            asked = λ j h. i.asked j (omega (arith, h));
            permitted = run.permitted;
            ends = λ less. elim (stops-by (e.sp || single) m.sp.halted (not (k.ends_at_dma && e.dma)) w.end_step.result w.end_step.ensures.goes w.if-not-end_step.true) [
              | inl halted ↦ inl (ap (λ x. done_steps x.0) (step_halted (with_counters q m) halted))
              | inr stops ↦
                  let dma = turn-stops turn k.ends_at_dma stops in
                  inr (inr (omega arith, inl (dma.0, rw (last, ← i.run.made.state) dma.1)))
            ];
          })
      | then-loop-made-test+in-Some+else-not-end_step+then-ends w ↦
          let q = w.execute.new.counters in let m = w.end_step.new.self in let e = w.in-Some.tests in let next = w.word_at-word-in-loop-made in
          let old = get_or l.slots w.slot.result w.index-slots-slot.result in
          let turn = turn-of k.saves refuses l.word l.counters q l.self w.execute.new.self m w.execute.result e single old w.execute.new.recorder
          i.goes i.word w.execute.ensures.answer w.execute.ensures.state w.in-Some.is i.free w.end_step.ensures.state w.execute.ensures.recorder w.vector_ranges.ensures in
          let inside : w.slot.result < length l.slots = omega (arith, w.slot.ensures, c.requires.slots l.made w.loop-made-test.true, i.run.told.len) in
          let run = run-more k.saves k.slot refuses l.made w.slot.result o _ _ (with_counters q m) e single c.args.slots.now l.slots old _ i.run turn w.slot.ensures inside in
          let last : l.made + 1 - 1 ≡ l.made = omega arith in
          let ended = turn-ends turn ends w.get.result next.result (w.get.ensures.value ∙ ap (λ (p : ProgramCounters). p.pc) w.counters.view_is) next.ensures ∙ sym w.ends.ensures ∙ w.if-ends.true in
          rw (c.set_counters.ensures, w.made-is, w.counters-is, w.self-is, w.slots-is) (record {
            within = omega (arith, w.loop-made-test.true);
            made = run.made;
            told = run.told;
            before = λ j h. i.before j (omega (arith, h));
            asked = λ j h. i.asked j (omega (arith, h));
            permitted = run.permitted;
            ends = λ less. inr (inr (omega arith, inr (rw (last, ← i.run.made.state) ended)));
          })
    ]
