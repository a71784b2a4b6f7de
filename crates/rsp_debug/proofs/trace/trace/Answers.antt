use Rattle.std.proofs.Common.{◌≡◌, ◌∙◌, ◌+◌, ap, refl, sym, arith, true, length}
use Rattle.rsp_memory.specs.Memory.{word_at}
use Rattle.rsp_machine.specs.Laws.{steps_of}
use Rattle.rsp_debug.specs.Runs.{step_refusal, hit_in}
use Rattle.rsp_debug.specs.HistoryRing.{states_before}
use Rattle.rsp_debug.proofs.DoneSteps.{after-one}
use Rattle.rsp_debug.proofs.Stretches.{past-none, no-one, some-one, not-done, not-done-past, kept-then}
use Rattle.rsp_debug.proofs.Reasons.{stuck}
use Rattle.rsp_debug.proofs.HistoryRecords.{one-more}
use Rattle.rsp_debug.proofs.Hits.{untested-hit}
use Rattle.rsp_debug.proofs.RunLoop.{come-more, IsOver, over-none, go-none, run-over}
use Rattle.rsp_debug.proofs.RunEnds.{watched-run, unmoved-run, unmoved}
use Rattle.rsp_debug.proofs.WatchChanges.{AreSnapshots, no-snapshots, snapshots-of}
use Rattle.rsp_debug.proofs.Traces.{trace-none, trace-more, rest-more, entry-is}
use Rattle.rsp_debug.proofs.trace.trace.Goals.{then-is_empty, else-is_empty, then-tests, else-tests, then-loop-made-test+else-is_none, else-loop-made-test, then-loop-made-test+then-is_none+in_default}
use Rattle.rsp_debug.proofs.trace.trace.Goals as goal

pub loop-made-init : goal.loop-made-init
loop-made-init g c =
    let xs = c.if-is_empty.conditions.now in
    let are : AreSnapshots c.args.watches.now c.args.machine.now.dmem xs = elim c.if-is_empty.branch [
      | then-is_empty w ↦ rw w.conditions-is (no-snapshots _ _ (c.is_empty.ensures.0 w.if-is_empty.true))
      | else-is_empty w ↦ rw w.conditions-is (snapshots-of _ _ _ _ c.snapshots-snapshots.ensures (c.bytes.ensures ∙ c.dmem.ensures))
    ] in
    record {
      count = refl;
      within = omega arith;
      going = go-none c.args.breaks.now xs c.none.result (length c.args.out.now) c.args.machine.now c.args.history.now 0 refl are.same;
      entries = trace-none c.args.machine.now c.args.out.now;
      rest = refl;
    }

pub loop-made-preserved : goal.loop-made-preserved
loop-made-preserved g c =
    let n = length c.args.out.now in let s = c.args.machine.now in let b = c.args.breaks.now in let xs = c.if-is_empty.conditions.now in let moves = c.none.result in
    let l = c.loop-made in let i = l.invariant in let e = c.recorded_step.ensures in let t = c.recorded_step.new.machine in
    let k = l.made in let there = i.going.come.after.reached in
    let none = no-one l.found c.is_none.result c.is_none.ensures c.if-is_none.true in
    let after = after-one l.machine t (sym e.answer ∙ c.in-Done.is) e.state in
    let hit : c.if-tests.found ≡ hit_in b xs t = elim c.if-tests.branch [
      | then-tests w ↦ w.found-is ∙ w.hit-found.ensures
      | else-tests w ↦ w.found-is ∙ none ∙ untested-hit b xs t (sym c.is_empty-tests.ensures ∙ w.if-tests.false)
    ] in
    record {
      count = i.count;
      within = omega (arith, c.loop-made-test.true);
      going = record {
        come = come-more b xs moves n s (λ pc word changes_memory. true) k 1 (k + 1) l.machine t l.found c.if-tests.found (λ pc word changes_memory no. cc)
            i.going.come none after (λ q h. absurd (omega (arith, h))) (λ q h. unmoved moves (steps_of q l.machine) c.none.ensures) refl
            (omega (arith, c.loop-made-test.true)) (omega arith) hit;
        kept = kept-then k 1 (k + 1) s l.machine t c.args.history.now l.history c.recorded_step.new.self i.going.kept
            (record { past = e.past ∙ sym (one-more 1 l.history.depth l.machine (states_before l.machine l.history.newest) refl); depth = e.depth }) there refl;
      };
      entries = trace-more k s l.out c.entry_of.result (omega (arith, c.loop-made-test.true, l.auto.out)) i.entries
          (entry-is k 1 c.pc-pc.result c.aligned_word-word.result c.of-writes.result s l.machine t c.entry_of.result c.entry_of.ensures c.pc-pc.ensures.value
          (c.aligned_word-word.ensures ∙ ap (λ d. word_at d c.from.result) c.imem.ensures ∙ ap (λ a. word_at l.machine.imem a) (c.from.ensures ∙ c.pc-pc.ensures.value))
          c.of-writes.ensures.value there after.reached refl);
      rest = rest-more k l.out c.args.out.now c.entry_of.result i.rest;
    }

pub returns-clause-run : goal.returns-clause-run
returns-clause-run g c =
    let n = length c.args.out.now in let b = c.args.breaks.now in let xs = c.if-is_empty.conditions.now in let moves = c.none.result in let l = c.loop-made in let k = l.made in
    let over : IsOver moves n k l.machine c.loop-made-test.machine l.history c.loop-made-test.history l.found = elim c.loop-made-test.branch [
      | then-loop-made-test+else-is_none w ↦
          rw (w.machine-is, w.history-is) (over-none moves n k l.machine l.history l.found (λ none free short. some-one l.found w.is_none.result _ w.is_none.ensures w.if-is_none.false none))
      | else-loop-made-test w ↦
          rw (w.machine-is, w.history-is) (over-none moves n k l.machine l.history l.found (λ none free short. absurd (omega (arith, w.loop-made-test.false, l.invariant.count, short))))
      | then-loop-made-test+then-is_none+in_default w ↦
          let made = w.recorded_step in let e = made.ensures in let other = w.in_default.not-Done in let past = states_before l.machine l.history.newest in
          let no = not-done l.machine made.new.machine made.result e.answer e.state other in
          rw (w.machine-is, w.history-is) (record {
            same = no.0;
            kept = record { past = e.past ∙ not-done-past l.history.depth l.machine past made.result e.answer other ∙ sym (past-none l.history.depth l.machine past); depth = e.depth };
            why = λ none free short. absurd (stuck l.machine no.1 (ap step_refusal (sym no.0) ∙ free));
          })
    ] in
    let are : AreSnapshots c.args.watches.now c.args.machine.now.dmem xs = elim c.if-is_empty.branch [
      | then-is_empty w ↦ rw w.conditions-is (no-snapshots _ _ (c.is_empty.ensures.0 w.if-is_empty.true))
      | else-is_empty w ↦ rw w.conditions-is (snapshots-of _ _ _ _ c.snapshots-snapshots.ensures (c.bytes.ensures ∙ c.dmem.ensures))
    ] in
    watched-run _ _ _ _ _ _ _ _ _ _ are (unmoved-run _ _ _ _ _ _ _ _ _ c.none.ensures
    (run-over b xs moves n c.args.machine.now c.args.history.now k l.machine _ l.history _ l.found l.invariant.going over c.unwrap_or.result c.stopped_here.result c.stopped_here.ensures c.unwrap_or.ensures))
