use Rattle.std.proofs.Common.{◌≡◌, ◌∙◌, ap, sym, arith}
use Rattle.rsp_machine.specs.State.{State}
use Rattle.rsp_machine.specs.Step.{step_of}
use Rattle.rsp_machine.specs.Laws.{done_steps}
use Rattle.rsp_machine.proofs.Records.{recorded-none, none-stuck, recorded-one, given-one}
use Rattle.rsp_machine.proofs.machine.Machine.step_recorded.Goals as goal

pub returns-then-steps_recorded_until-eq0 : goal.returns-then-steps_recorded_until-eq0
returns-then-steps_recorded_until-eq0 g c =
    let k = c.steps_recorded_until.result in let s = c.args.self.now in let t = c.steps_recorded_until.new.self in let none = c.if-steps_recorded_until-eq0.true in
    let same : t ≡ s = recorded-none k s t none c.steps_recorded_until.ensures.recorded.made.state in
    let stuck = none-stuck k s t none (c.steps_recorded_until.ensures.ends (omega (arith, none))) in
    record {
      answer = c.step.ensures.answer ∙ ap (λ (x : State). (step_of x).0) same;
      state = c.step.ensures.state ∙ ap (λ (x : State). (step_of x).1) same;
      which = (λ no. cc, λ p. let made : 1 ≡ 0 = ap done_steps (sym p.0 ∙ c.step.ensures.answer) ∙ stuck in absurd (omega (arith, made)));
      back = tt;
    }

pub returns : goal.returns
returns g c =
    let k = c.steps_recorded_until.result in let s = c.args.self.now in let t = c.steps_recorded_until.new.self in let e = c.steps_recorded_until.ensures.recorded in
    let one : k ≡ 1 = omega (arith, e.within, c.if-steps_recorded_until-eq0.false) in
    let step = recorded-one k s t one e.made.done e.made.state in
    let given = given-one s t c.from_mut.result.now c.steps_recorded_until.new.records c.new-record.result c.can_undo.result c.then_some.result c.new-record.ensures c.can_undo.ensures c.then_some.ensures (rw one at e) in
    record { answer = step.0; state = step.1; which = given.0; back = given.1 }
