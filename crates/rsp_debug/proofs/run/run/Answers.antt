use Rattle.std.proofs.Common.{◌≡◌, ℕ, ◌-◌, ◌<◌, ◌≤◌, ◌/◌, refl, inl, inr, sym, ◌∙◌, arith, Bool, true, false, Option, None, All, List, [], ◌∷◌, length}
use Rattle.std.proofs.lemmas.Bool.{eqb-true}
use Rattle.rsp_decode.specs.declared.scalar.MoveOp.{MoveOp}
use Rattle.rsp_machine.specs.State.{State}
use Rattle.rsp_machine.specs.Laws.{steps_of}
use Rattle.rsp_machine.specs.Loop.{AreDone, LoopEnd}
use Rattle.rsp_machine.specs.Until.{refuses_at}
use Rattle.rsp_machine.proofs.LoopSteps.{ends-freely}
use Rattle.rsp_debug.specs.HistoryRing.{Records}
use Rattle.rsp_debug.specs.Runs.{step_refusal, Asks, Refuses, IsRun}
use Rattle.rsp_debug.specs.declared.moves.Moves.{Moves}
use Rattle.rsp_debug.specs.declared.stop.Stop.{Stop}
use Rattle.rsp_debug.specs.declared.stop.Watch.{Watch}
use Rattle.std.specs.Prelude.{◌==◌, IsNone, unwrap_or}
use Rattle.rsp_debug.specs.Breaks.{break_count}
use Rattle.rsp_debug.specs.Moves.{is_at_move, steps_to_move}
use Rattle.rsp_debug.specs.declared.stop.Reason.TheVariants.{Limit}
use Rattle.rsp_debug.proofs.BreakTable.{empty-break}
use Rattle.rsp_debug.proofs.DoneSteps.{made-after}
use Rattle.rsp_debug.proofs.HistoryRecords.{past-unkept}
use Rattle.rsp_debug.proofs.Reasons.{stuck}
use Rattle.rsp_debug.proofs.RunEnds.{watched-run, none-refused}
use Rattle.rsp_debug.proofs.RunLoop.{moves-pass, move-next, come-all, stop-come, no-ends}
use Rattle.rsp_debug.proofs.WatchChanges.{differs-empty, no-snapshots}
use Rattle.rsp_debug.proofs.run.run.Goals as goal

nothing-asks : (b : List Bool) → (break_count b == 0) ≡ true → Asks (λ pc word changes_memory. false) b []
nothing-asks b none pc word changes_memory e = (empty-break b (pc / 4) (eqb-true _ _ none), inr refl)

empty : {X : Type 0} (xs : List X) → length xs ≡ 0 → xs ≡ []
empty [] none = refl
empty (x ∷ xs) none = absurd (omega (arith, none))

-- a run without breakpoints, watches and a history is one call of the machine
one_call : (b : List Bool) (w : List (Option Watch)) (moves : Moves) (refuses : MoveOp → ℕ → Bool) (limit n k : ℕ) (s t : State) (h : Records) (stop : Stop)
    → (break_count b == 0) ≡ true → All IsNone w → Refuses refuses moves → limit ≡ n → k ≤ limit → AreDone k s t → ((i : ℕ) → i < k → refuses_at refuses (steps_of i s) ≡ false)
    → (k < limit → LoopEnd false (λ pc word changes_memory. false) refuses k s t) → h.depth ≡ 0 → length h.newest ≤ h.depth
    → stop ≡ record { reason = unwrap_or (step_refusal t) Limit; steps = k; pc = t.pc } → IsRun b w (steps_to_move moves n s) s t h h stop
one_call b w moves refuses limit n k s t h stop unbroken unwatched same is within made permitted ends unkept few stopped =
    let come = come-all b [] moves n s k t (nothing-asks b unbroken) (differs-empty _ _ refl) (made-after k s t made.done made.state) (omega (arith, within, is))
    (λ i h. moves-pass refuses moves (steps_of i s) same (permitted i h)) in
    let all : step_refusal t ≡ None → k < n → is_at_move moves t ≡ true = λ free short. elim (ends-freely k s t _ _ (ends (omega (arith, short, is)))) [
      | inl none ↦ absurd (stuck t none free)
      | inr (inl refused) ↦ move-next refuses moves t same refused free
      | inr (inr ended) ↦ let no : false ≡ true = sym (no-ends (steps_of (k - 1) s)) ∙ ended.1 in cc
    ] in
    watched-run b w s.dmem [] _ s t h h stop (no-snapshots w s.dmem unwatched) (record {
      end = stop-come b [] moves n s k t None come (λ none. all) Limit stop stopped refl;
      kept = record { past = past-unkept stop.steps h.depth s t h.newest unkept (empty _ (omega (arith, few, unkept))); depth = refl };
    })

pub returns-then-not-is_empty-2 : goal.returns-then-not-is_empty-2
returns-then-not-is_empty-2 g c = watched-run _ _ _ _ _ _ _ _ _ _ (no-snapshots _ c.args.machine.now.dmem (c.is_empty.ensures.0 c.if-not-is_empty.false)) c.run_to.ensures

pub run_to-requires-then-is_empty-clause-refuses : goal.run_to-requires-then-is_empty-clause-refuses
run_to-requires-then-is_empty-clause-refuses g c = none-refused c.args.moves (c.is_empty-3.ensures.none c.if-is_empty.true)

pub returns-then-is_empty : goal.returns-then-is_empty
returns-then-is_empty g c = watched-run _ _ _ _ _ _ _ _ _ _ (no-snapshots _ c.args.machine.now.dmem (c.is_empty.ensures.0 c.if-not-is_empty.false)) c.run_to-then-is_empty.ensures

pub returns-then-depth-eq0 : goal.returns-then-depth-eq0
returns-then-depth-eq0 g c =
    let e = c.steps_until-steps.ensures in
    one_call c.args.breaks.now c.args.watches.now c.args.moves _ _ c.args.n _ c.args.machine.now _ c.args.history.now _ (sym c.is_empty-2.ensures ∙ c.if-not-is_empty-2.false) (c.is_empty.ensures.0 c.if-not-is_empty.false)
    (none-refused c.args.moves (c.is_empty-3.ensures.none c.if-is_empty.true)) c.from.ensures e.within e.made e.permitted e.ends (sym c.depth.ensures.value ∙ c.if-depth-eq0.true) (omega (arith, c.depth.ensures.value, c.depth.ensures.within)) c.stopped_here.ensures

pub returns-then-depth-eq0-2 : goal.returns-then-depth-eq0-2
returns-then-depth-eq0-2 g c =
    let e = c.steps_until-steps-then-depth-eq0-2.ensures in
    one_call c.args.breaks.now c.args.watches.now c.args.moves _ _ c.args.n _ c.args.machine.now _ c.args.history.now _ (sym c.is_empty-2.ensures ∙ c.if-not-is_empty-2.false) (c.is_empty.ensures.0 c.if-not-is_empty.false)
    (λ op register. refl) c.from-then-depth-eq0-2.ensures e.within e.made e.permitted e.ends (sym c.depth-2.ensures.value ∙ c.if-depth-eq0-2.true) (omega (arith, c.depth-2.ensures.value, c.depth-2.ensures.within)) c.stopped_here-then-depth-eq0-2.ensures

pub run_to-requires-2-clause-asks : goal.run_to-requires-2-clause-asks
run_to-requires-2-clause-asks g c = nothing-asks c.args.breaks.now (sym c.is_empty-2.ensures ∙ c.if-not-is_empty-2.false)

pub returns : goal.returns
returns g c = watched-run _ _ _ _ _ _ _ _ _ _ (no-snapshots _ c.args.machine.now.dmem (c.is_empty.ensures.0 c.if-not-is_empty.false)) c.run_to-2.ensures
