use Rattle.std.proofs.Common.{◌≡◌, ◌<◌, ◌+◌, ◌⊎◌, ◌∙◌, ◌++◌, inl, inr, [], length, take, drop, min, ap, sym, refl, arith, slice_set, slice_index_or}
use Rattle.std.specs.Option.{option_copied_mut}
use Rattle.rsp_machine.specs.State.{State}
use Rattle.rsp_machine.specs.Step.{step_of}
use Rattle.rsp_machine.specs.Undo.{Saved}
use Rattle.rsp_machine.specs.Footprint.{makes_no_dma}
use Rattle.rsp_machine.proofs.Records.{recorded-none, recorded-one, none-stuck}
use Rattle.std.proofs.lemmas.Option.{slice_get_within}
use Rattle.rsp_debug.specs.History.{history_after_steps, history_after}
use Rattle.rsp_debug.specs.HistoryRing.{Records, backwards, entries_before, states_before}
use Rattle.rsp_debug.proofs.Ring.{turned}
use Rattle.rsp_debug.proofs.Stretches.{past-none, single-none}
use Rattle.rsp_debug.proofs.HistoryRecords.{past-unkept, one-written, one-put, one-record, one-more, none-put, no-entry, stretch-kept, stretch-cleared}
use Rattle.rsp_debug.proofs.history.History.recorded_step.Goals.{then-self-depth, else-self-depth, then-can_undo, else-can_undo}
use Rattle.rsp_debug.proofs.history.History.recorded_step.Goals as goal

pub returns-then-depth-eq0-clause-past : goal.returns-then-depth-eq0-clause-past
returns-then-depth-eq0-clause-past g c =
    let i = c.self.inside in let xs = i.slots.items in let s = c.args.machine.now in let rs = entries_before i.next i.count xs in
    let none : length xs ≡ 0 = omega (arith, c.if-depth-eq0.true, c.len-depth.ensures.len) in
    let empty : rs ≡ [] = ap (λ n. entries_before i.next n xs) (let z : i.count ≡ 0 = omega (arith, none, c.self.invariant.1) in z) in
    ap (λ (r : Records). states_before c.step.new.self r.newest) (sym c.self.view_is)
    ∙ ap (λ (x : State). states_before x rs) c.step.ensures.state
    ∙ past-unkept 1 (length xs) s (step_of s).1 rs none empty
    ∙ one-more 1 (length xs) s (states_before s rs) refl
    ∙ ap (λ (r : Records). history_after r.depth s (states_before s r.newest)) c.self.view_is

pub returns-in_default-clause-past : goal.returns-in_default-clause-past
returns-in_default-clause-past g c =
    let i = c.self.inside in let xs = i.slots.items in let s = c.args.machine.now in let rs = entries_before i.next i.count xs in
    let which : (c.if-self-depth.entry ≡ 0) ⊎ (c.if-self-depth.entry < length xs) = elim c.if-self-depth.branch [
      | then-self-depth w ↦ inl w.entry-is
      | else-self-depth w ↦ inr (omega (arith, w.entry-is, w.if-self-depth.false, c.self.invariant.0, c.len-depth.ensures.len))
    ] in
    let none : length xs ≡ 0 = no-entry xs c.if-self-depth.entry (sym c.get_mut.ensures.value ∙ ap option_copied_mut c.in_default.is) which in
    let empty : rs ≡ [] = ap (λ n. entries_before i.next n xs) (let z : i.count ≡ 0 = omega (arith, none, c.self.invariant.1) in z) in
    ap (λ (x : State). states_before x rs) c.step-in_default.ensures.state
    ∙ past-unkept 1 (length xs) s (step_of s).1 rs none empty
    ∙ one-more 1 (length xs) s (states_before s rs) refl
    ∙ ap (λ (r : Records). history_after r.depth s (states_before s r.newest)) c.self.view_is

pub returns-then-steps_recorded_until-eq0-clause-answer : goal.returns-then-steps_recorded_until-eq0-clause-answer
returns-then-steps_recorded_until-eq0-clause-answer g c =
    let e = c.steps_recorded_until.ensures.recorded in
    c.step-then-steps_recorded_until-eq0.ensures.answer
    ∙ ap (λ (x : State). (step_of x).0) (recorded-none c.steps_recorded_until.result c.args.machine.now c.steps_recorded_until.new.self c.if-steps_recorded_until-eq0.true e.made.state)

pub returns-then-steps_recorded_until-eq0-clause-state : goal.returns-then-steps_recorded_until-eq0-clause-state
returns-then-steps_recorded_until-eq0-clause-state g c =
    let e = c.steps_recorded_until.ensures.recorded in
    c.step-then-steps_recorded_until-eq0.ensures.state
    ∙ ap (λ (x : State). (step_of x).1) (recorded-none c.steps_recorded_until.result c.args.machine.now c.steps_recorded_until.new.self c.if-steps_recorded_until-eq0.true e.made.state)

pub returns-then-steps_recorded_until-eq0-clause-past : goal.returns-then-steps_recorded_until-eq0-clause-past
returns-then-steps_recorded_until-eq0-clause-past g c =
    let i = c.self.inside in let xs = i.slots.items in let s = c.args.machine.now in let rs = entries_before i.next i.count xs in
    let e = c.steps_recorded_until.ensures.recorded in let k = c.steps_recorded_until.result in let t = c.steps_recorded_until.new.self in
    let no_step = c.if-steps_recorded_until-eq0.true in
    let still : t ≡ s = recorded-none k s t no_step e.made.state in
    let stuck = none-stuck k s t no_step (c.steps_recorded_until.ensures.ends (omega (arith, no_step, c.from_mut.ensures.len))) in
    ap (λ l. states_before c.step-then-steps_recorded_until-eq0.new.self (entries_before i.next i.count l))
    (none-put c.if-self-depth.entry k c.in-Some.record.now xs c.steps_recorded_until.new.records c.from_mut.result.now (sym c.get_mut.ensures.value ∙ ap option_copied_mut c.in-Some.is) no_step e.rest c.from_mut.ensures.value)
    ∙ (single-none k (length xs) s t c.step-then-steps_recorded_until-eq0.new.self rs (states_before s rs) no_step e.made.state stuck c.step-then-steps_recorded_until-eq0.ensures.state
    (ap (λ (x : State). states_before x rs) still ∙ sym (past-none (length xs) s (states_before s rs)) ∙ ap (λ j. history_after_steps j (length xs) s (states_before s rs)) (sym no_step))).1
    ∙ ap (λ (r : Records). history_after r.depth s (states_before s r.newest)) c.self.view_is

pub returns-clause-answer : goal.returns-clause-answer
returns-clause-answer g c =
    let e = c.steps_recorded_until.ensures.recorded in
    (recorded-one c.steps_recorded_until.result c.args.machine.now c.steps_recorded_until.new.self (omega (arith, e.within, c.if-steps_recorded_until-eq0.false, c.from_mut.ensures.len)) e.made.done e.made.state).0

pub returns-clause-state : goal.returns-clause-state
returns-clause-state g c =
    let e = c.steps_recorded_until.ensures.recorded in
    (recorded-one c.steps_recorded_until.result c.args.machine.now c.steps_recorded_until.new.self (omega (arith, e.within, c.if-steps_recorded_until-eq0.false, c.from_mut.ensures.len)) e.made.done e.made.state).1

pub returns-clause-past : goal.returns-clause-past
returns-clause-past g c =
    let i = c.self.inside in let xs = i.slots.items in let a = c.if-self-depth.entry in let s = c.args.machine.now in let old = c.in-Some.record.now in
    let e = c.steps_recorded_until.ensures.recorded in let k = c.steps_recorded_until.result in let ys = c.steps_recorded_until.new.records in let t = c.steps_recorded_until.new.self in
    let depth = c.len-depth.ensures.len in let zs = slice_set xs a (slice_index_or ys 0 old) in
    let turn : backwards a xs ≡ backwards i.next xs = elim c.if-self-depth.branch [
      | then-self-depth w ↦ ap (λ j. backwards j xs) w.entry-is ∙ turned xs i.next (w.if-self-depth.true ∙ depth)
      | else-self-depth w ↦ ap (λ j. backwards j xs) w.entry-is
    ] in
    let room : a < length xs = slice_get_within xs a old (sym c.get_mut.ensures.value ∙ ap option_copied_mut c.in-Some.is) in
    let len : length ys ≡ 1 = e.len ∙ c.from_mut.ensures.len in
    let one : k ≡ 1 = omega (arith, e.within, c.if-steps_recorded_until-eq0.false, c.from_mut.ensures.len) in
    let h = one-written a k i.count s t xs c.from_mut.result.now ys room c.self.invariant.1 one c.from_mut.ensures.len e in
    let put : zs ≡ take a xs ++ (ys ++ drop (a + 1) xs) = one-put a old xs ys room len in
    let record_is = one-record k old ys one len in
    let made : states_before t (entries_before (a + k) c.if-can_undo.self zs) ≡ history_after_steps k (length xs) s (states_before s (entries_before a i.count xs)) =
    elim c.if-can_undo.branch [
      | then-can_undo w ↦ stretch-kept a 1 k i.count c.if-can_undo.self s t xs ys zs h put
          (w.self-is ∙ w.min-self-inside.ensures ∙ ap (λ j. min (i.count + j) c.len-depth.result) (sym one) ∙ ap (min (i.count + k)) depth)
          (λ some. sym w.if-can_undo.true ∙ c.can_undo.ensures ∙ ap (λ (r : Saved). makes_no_dma r.footprint) record_is)
      | else-can_undo w ↦ stretch-cleared a 1 k i.count c.if-can_undo.self s t xs ys zs h w.self-is (omega (arith, one)) (sym w.if-can_undo.false ∙ c.can_undo.ensures ∙ ap (λ (r : Saved). makes_no_dma r.footprint) record_is)
    ] in
    ap (λ j. states_before t (entries_before (a + j) c.if-can_undo.self zs)) (sym one)
    ∙ made ∙ one-more k (length xs) s (states_before s (entries_before a i.count xs)) one
    ∙ ap (λ l. history_after (length xs) s (states_before s (take i.count l))) turn
    ∙ ap (λ (r : Records). history_after r.depth s (states_before s r.newest)) c.self.view_is
