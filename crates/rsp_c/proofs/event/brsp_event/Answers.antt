use Rattle.std.proofs.Common.{◌≡◌, ◌∙◌, ℕ, ◌+◌, ◌<◌, ◌⊎◌, ap, subst, sym, arith, Option, Some}
use Rattle.std.specs.Prelude.{IfSome}
use Rattle.std.specs.Global.{Box}
use Rattle.rsp_machine.specs.Laws.{steps_of}
use Rattle.rsp_debug.specs.Debugging.{Debugging}
use Rattle.rsp_debug.specs.Moves.{end_steps}
use Rattle.rsp_debug.specs.declared.moves.MoveEnd.{MoveEnd}
use Rattle.rsp_c.specs.Events.{c_reached}
use Rattle.rsp_c.specs.declared.event.RspReached.{RspReached}
use Rattle.rsp_c.proofs.Events.{stepped-once, reached-steps, reached-left, move-left, other-status}
use Rattle.rsp_c.proofs.event.brsp_event.Goals.{then-reads-le65535+then-writes-le131071+in-Err, then-reads-le65535+then-writes-le131071+in-Ok+in-Move, then-reads-le65535+then-writes-le131071+in-Ok+in_default, in_default-via-in-Move+then-asked-2+else-is_status_write, in_default-via-in-Move+else-asked-2, in_default-via-in_default, else-reads-le65535}
use Rattle.rsp_c.proofs.event.brsp_event.Goals as goal

refused : (status : ℕ) → status ≡ 103 → status ≡ 0 → ⊥
refused status is ok = omega (arith, is, ok)

value_is : {X : Type 0} (a b : Box X) → a ≡ b → a.value ≡ b.value
value_is a b e = ap (λ (x : Box _). x.value) e

-- what was held was run so many steps, and is held again
held : (old new : Option Debugging) (d e : Debugging) (k : ℕ) → old ≡ Some d → new ≡ Some e → e.state ≡ steps_of k d.state → IfSome old (λ x. IfSome new (λ y. y.state ≡ steps_of k x.state))
held old new d e k was is made =
    subst (λ (o : Option Debugging). IfSome o (λ x. IfSome new (λ y. y.state ≡ steps_of k x.state))) (sym was)
    (subst (λ (o : Option Debugging). IfSome o (λ y. y.state ≡ steps_of k d.state)) (sym is) made)

steps_are : (a b : RspReached) → a ≡ b → a.at.stop.steps ≡ b.at.stop.steps
steps_are a b e = ap (λ (x : RspReached). x.at.stop.steps) e

abbrev IsBefore : RspReached → Type 0
IsBefore r = (r.at.stop.reason ≡ 5) ⊎ (r.at.stop.reason ≡ 6)

pub returns-after-reads-le65535-clause-reached : goal.returns-after-reads-le65535-clause-reached
returns-after-reads-le65535-clause-reached c ok = elim c.if-reads-le65535.branch [
  | then-reads-le65535+then-writes-le131071+in-Err w ↦ absurd (refused c.if-reads-le65535.status w.status-is ok)
  | then-reads-le65535+then-writes-le131071+in-Ok+in-Move w ↦
      let ran = w.in-Ok.ensures in
      let steps : c.if-reads-le65535.out.at.stop.steps ≡ w.in-Move.steps + 1 = steps_are _ _ (w.out-is ∙ w.step_status.ensures.reached) in
      held _ _ _ _ _ c.in-Some.ensures.was c.put.ensures
      (stepped-once _ _ _ _ _ _ _ _ _ _ _ _ _ _ _ w.deref_mut.ensures.value ran.end ran.reached ran.within ran.next w.event_end-end.ensures w.in-Move.is w.is_status_write.ensures w.if-is_status_write.true
      w.deref_mut-in-Move.ensures.value (value_is _ _ w.debugger-is ∙ w.step_status.ensures.next)
      ∙ ap (λ k. steps_of k c.in-Some.debugger.value.state) (sym steps))
  | then-reads-le65535+then-writes-le131071+in-Ok+in_default w ↦
      let same : w.in_default.end ≡ w.event_end-end.result = elim w.in_default.branch [ in_default-via-in-Move+then-asked-2+else-is_status_write v ↦ v.end-is ∙ sym v.in-Move.is | in_default-via-in-Move+else-asked-2 v ↦ v.end-is ∙ sym v.in-Move.is | in_default-via-in_default v ↦ v.end-is ] in
      let out = w.out-is ∙ w.c_reached.ensures ∙ ap (λ (x : MoveEnd). c_reached x w.machine.result.now) (same ∙ w.event_end-end.ensures) in
      held _ _ _ _ _ c.in-Some.ensures.was c.put.ensures
      (ap (λ (x : Debugging). x.state) (value_is _ _ w.debugger-is) ∙ w.in-Ok.ensures.reached ∙ ap (λ (x : Debugging). steps_of (end_steps w.in-Ok.end) x.state) w.deref_mut.ensures.value
      ∙ ap (λ k. steps_of k c.in-Some.debugger.value.state) (sym (steps_are _ _ out ∙ reached-steps c.args.n w.in-Ok.end w.machine.result.now)))
  | else-reads-le65535 w ↦ absurd (refused c.if-reads-le65535.status w.status-is ok)
]

pub returns-after-reads-le65535-clause-within : goal.returns-after-reads-le65535-clause-within
returns-after-reads-le65535-clause-within c ok = elim c.if-reads-le65535.branch [
  | then-reads-le65535+then-writes-le131071+in-Err w ↦ absurd (refused c.if-reads-le65535.status w.status-is ok)
  | then-reads-le65535+then-writes-le131071+in-Ok+in-Move w ↦
      let steps : c.if-reads-le65535.out.at.stop.steps ≡ w.in-Move.steps + 1 = steps_are _ _ (w.out-is ∙ w.step_status.ensures.reached) in
      let left = move-left c.args.n w.in-Ok.end w.in-Move.steps w.in-Move.pc w.in-Move.register w.in-Move.writes w.in-Move.value (sym w.event_end-end.ensures ∙ w.in-Move.is) w.in-Ok.ensures.within in
      omega (arith, steps, left.1)
  | then-reads-le65535+then-writes-le131071+in-Ok+in_default w ↦
      let same : w.in_default.end ≡ w.event_end-end.result = elim w.in_default.branch [ in_default-via-in-Move+then-asked-2+else-is_status_write v ↦ v.end-is ∙ sym v.in-Move.is | in_default-via-in-Move+else-asked-2 v ↦ v.end-is ∙ sym v.in-Move.is | in_default-via-in_default v ↦ v.end-is ] in
      let out = w.out-is ∙ w.c_reached.ensures ∙ ap (λ (x : MoveEnd). c_reached x w.machine.result.now) (same ∙ w.event_end-end.ensures) in
      omega (arith, steps_are _ _ out, reached-steps c.args.n w.in-Ok.end w.machine.result.now, w.in-Ok.ensures.within)
  | else-reads-le65535 w ↦ absurd (refused c.if-reads-le65535.status w.status-is ok)
]

pub returns-after-reads-le65535-clause-counted : goal.returns-after-reads-le65535-clause-counted
returns-after-reads-le65535-clause-counted c ok is = elim c.if-reads-le65535.branch [
  | then-reads-le65535+then-writes-le131071+in-Err w ↦ absurd (refused c.if-reads-le65535.status w.status-is ok)
  | then-reads-le65535+then-writes-le131071+in-Ok+in-Move w ↦ absurd (other-status _ _ _ (subst IsBefore (w.out-is ∙ w.step_status.ensures.reached) is))
  | then-reads-le65535+then-writes-le131071+in-Ok+in_default w ↦
      let same : w.in_default.end ≡ w.event_end-end.result = elim w.in_default.branch [ in_default-via-in-Move+then-asked-2+else-is_status_write v ↦ v.end-is ∙ sym v.in-Move.is | in_default-via-in-Move+else-asked-2 v ↦ v.end-is ∙ sym v.in-Move.is | in_default-via-in_default v ↦ v.end-is ] in
      let out = w.out-is ∙ w.c_reached.ensures ∙ ap (λ (x : MoveEnd). c_reached x w.machine.result.now) (same ∙ w.event_end-end.ensures) in
      subst (λ (x : RspReached). IsBefore x → x.at.stop.steps < c.args.n) (sym out) (reached-left c.args.n w.in-Ok.end w.machine.result.now w.in-Ok.ensures.within) is
  | else-reads-le65535 w ↦ absurd (refused c.if-reads-le65535.status w.status-is ok)
]
