use Rattle.std.proofs.Common.{◌∙◌, ap, sym}
use Rattle.rsp_memory.specs.Memory.{word_at}
use Rattle.rsp_machine.specs.State.{State}
use Rattle.rsp_machine.specs.Laws.{steps_of}
use Rattle.rsp_machine.proofs.LoopSteps.{one-done, one-none, one-halted, one-reserved}
use Rattle.rsp_machine.proofs.machine.Machine.step.Goals as goal

pub returns-then-steps-eq1-clause-answer : goal.returns-then-steps-eq1-clause-answer
returns-then-steps-eq1-clause-answer g c = one-done c.steps.result c.args.self.now c.steps.ensures.done c.if-steps-eq1.true

pub returns-then-halted-clause-answer : goal.returns-then-halted-clause-answer
unfolding steps_of
returns-then-halted-clause-answer g c =
    let none = one-none c.steps.result c.args.self.now c.steps.ensures.done c.if-steps-eq1.false in
    let halted = ap (λ (x : State). x.sp.halted) (sym c.self.view_is) ∙ sym c.halted.ensures ∙ c.if-halted.true in
    one-halted c.args.self.now c.steps.new.self c.steps.ensures.state none halted

pub returns-clause-answer : goal.returns-clause-answer
unfolding steps_of
returns-clause-answer g c =
    let none = one-none c.steps.result c.args.self.now c.steps.ensures.done c.if-steps-eq1.false in
    let halted = ap (λ (x : State). x.sp.halted) (sym c.self.view_is) ∙ sym c.halted.ensures ∙ c.if-halted.false in
    let word = c.word_at.ensures ∙ ap (λ p. word_at c.steps.new.self.imem p.pc) c.counters.ensures in
    one-reserved c.word_at.result c.args.self.now c.steps.new.self c.steps.ensures.state none halted word
