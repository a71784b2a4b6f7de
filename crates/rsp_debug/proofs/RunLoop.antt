-- What a run comes to, by stretches of steps.
use Rattle.std.proofs.Common.{◌≡◌, inl, inr, ℕ, zero, suc, ◌+◌, ◌-◌, ◌<◌, ◌≤◌, List, refl, ap, sym, ◌∙◌, subst, below_more, arith, Bool, true, false, Option, Some, None}
use Rattle.std.specs.Prelude.{[], ◌∷◌, unwrap_or, is_none, not, ◌&&◌}
use Rattle.rsp_memory.specs.Memory.{word_at}
use Rattle.rsp_decode.specs.declared.inst.Inst.{Inst}
use Rattle.rsp_decode.specs.declared.scalar.MoveOp.{MoveOp}
use Rattle.rsp_decode.specs.Table.{inst_of}
use Rattle.rsp_machine.specs.State.{State}
use Rattle.rsp_machine.specs.Step.{step_of}
use Rattle.rsp_machine.specs.Laws.{steps_of}
use Rattle.rsp_machine.specs.Until.{changes_memory_at, ends_after, refuses_at}
use Rattle.rsp_machine.specs.declared.step.StepEnd.TheVariants.{Done}
use Rattle.rsp_machine.proofs.Undo.{memory-kept}
use Rattle.rsp_debug.specs.declared.stop.Reason.{Reason}
use Rattle.rsp_debug.specs.declared.stop.Reason.TheVariants.{Reserved, Halted, Limit}
use Rattle.rsp_debug.specs.declared.stop.Stop.{Stop}
use Rattle.rsp_debug.specs.declared.snapshot.Snapshot.{Snapshot}
use Rattle.rsp_debug.specs.declared.moves.Moves.{Moves}
use Rattle.rsp_debug.specs.Snapshots.{differs, watches_of}
use Rattle.rsp_debug.specs.HistoryRing.{Records}
use Rattle.rsp_debug.specs.Calls.{IsAfter}
use Rattle.rsp_debug.specs.Stops.{when, first_of, reason_at, IsStop}
use Rattle.rsp_debug.specs.Moves.{is_at_move, steps_to_move}
use Rattle.rsp_debug.specs.Runs.{step_refusal, hit_in, Asks, Refuses, AreKept, IsRun}
use Rattle.rsp_debug.proofs.WatchChanges.{differs-empty}
use Rattle.rsp_debug.proofs.Hits.{nothing-hit}
use Rattle.rsp_debug.proofs.Reasons.{reason-by, limit-is, limit-not, hit_of, next-hit, nothing-differs, step-done}
use Rattle.rsp_debug.proofs.DoneSteps.{after-none, after-more}
use Rattle.rsp_debug.proofs.Least.{least-above, least-only}
use Rattle.rsp_debug.proofs.Stretches.{kept-none, kept-then}
use Rattle.rsp_debug.proofs.RunEnds.{not_next}
use Rattle.rsp_debug.proofs.Moving.{asked-is}

-- how far a run goes that goes no further than to a move
module _ (moves : Moves) (n k : ℕ) (s : State) (within : k ≤ n) (none : (i : ℕ) → i < k → is_at_move moves (steps_of i s) ≡ false) where
  move-above : k ≤ steps_to_move moves n s
  unfolding steps_to_move
  move-above = least-above (λ i. is_at_move moves (steps_of i s)) n k within none

  move-here : (k < n → is_at_move moves (steps_of k s) ≡ true) → k ≡ steps_to_move moves n s
  unfolding steps_to_move
  move-here here = sym (least-only (λ i. is_at_move moves (steps_of i s)) n k (record { within = within; before = none; here = here }))

-- a step that a test of moves permits is none of them, and one that it refuses is, if the machine can make it
pub moves-pass : (refuses : MoveOp → ℕ → Bool) (moves : Moves) (s : State) → Refuses refuses moves → refuses_at refuses s ≡ false → is_at_move moves s ≡ false
unfolding refuses_at
moves-pass refuses moves s same h = not_next s.sp.halted _ (asked-is refuses moves same (inst_of (word_at s.imem s.pc)) ∙ h)

is_next : (halted asked : Bool) (o : Option Inst) → asked ≡ true → first_of (when (not halted && is_none o) Reserved ∷ when halted Halted ∷ []) ≡ None → not halted && asked ≡ true
is_next true asked o e free = cc
is_next false asked o e free = e

pub move-next : (refuses : MoveOp → ℕ → Bool) (moves : Moves) (s : State) → Refuses refuses moves → refuses_at refuses s ≡ true → step_refusal s ≡ None → is_at_move moves s ≡ true
unfolding refuses_at
move-next refuses moves s same h free =
    let o = inst_of (word_at s.imem s.pc) in is_next s.sp.halted _ o (asked-is refuses moves same o ∙ h) free

-- a test that ends no run
pub no-ends : (s : State) → ends_after (λ pc word changes_memory. false) s ≡ false
unfolding ends_after
no-ends s = refl

-- A run of at most n steps from s has made k of them, and looks for what it finds.
pub record IsCome (b : List Bool) (snapshots : List (Option Snapshot)) (moves : Moves) (n : ℕ) (s : State) (k : ℕ) (m : State) (found : Option Reason) : Type 0 where
  pub within : k ≤ n
  pub after : IsAfter k s m
  pub first : (i : ℕ) → i < k → (limit : ℕ) → i < limit → reason_at b (watches_of snapshots) limit s i ≡ None
  pub none : (i : ℕ) → i < k → is_at_move moves (steps_of i s) ≡ false
  pub is : found ≡ hit_of b (watches_of snapshots) k (steps_of (k - 1) s) (steps_of k s)
  pub same : found ≡ None → differs snapshots m.dmem ≡ None

module _ (b : List Bool) (snapshots : List (Option Snapshot)) (moves : Moves) (n : ℕ) (s : State) where
  -- the start
  pub come-none : (k : ℕ) → k ≡ 0 → differs snapshots s.dmem ≡ None → IsCome b snapshots moves n s k s None
  come-none k none same = subst (λ (x : ℕ). IsCome b snapshots moves n s x s None) (sym none) (record {
    within = omega arith;
    after = after-none s;
    first = λ i h. absurd (omega (arith, h));
    none = λ i h. absurd (omega (arith, h));
    is = refl;
    same = λ none. same;
  })

  module _ (k : ℕ) (m : State) (come : IsCome b snapshots moves n s k m None) where
    -- one step more
    come-one : (t : State) → k + 1 ≤ n → (step_of m).0 ≡ Done → t ≡ (step_of m).1 → is_at_move moves m ≡ false → IsCome b snapshots moves n s (k + 1) t (hit_in b snapshots t)
    come-one t within done there free_move =
        let after = after-more k s m t come.after done there in
        record {
          within = within;
          after = after;
          first = below_more (λ i. (limit : ℕ) → i < limit → reason_at b (watches_of snapshots) limit s i ≡ None) k come.first (λ limit less.
              reason-by b (watches_of snapshots) limit s m k None None come.after.reached (step-done m done) (sym come.is) ∙ limit-not k limit less);
          none = below_more (λ i. is_at_move moves (steps_of i s) ≡ false) k come.none (ap (is_at_move moves) (sym come.after.reached) ∙ free_move);
          is = sym (next-hit b snapshots s m t k come.after.reached after.reached (come.same refl));
          same = nothing-differs b snapshots t;
        }

  -- where a test lets steps pass, nothing is hit
  lets_pass : (ends : ℕ → ℕ → Bool → Bool) (m : State) → Asks ends b snapshots → (step_of m).0 ≡ Done → differs snapshots m.dmem ≡ None → ends_after ends m ≡ false → hit_in b snapshots (step_of m).1 ≡ None
  unfolding ends_after
  lets_pass ends m asks done same passes =
      let t = (step_of m).1 in
      let none = asks t.pc (word_at t.imem t.pc) (changes_memory_at m) passes in
      let still : differs snapshots t.dmem ≡ None = elim none.1 [
        | inl left ↦ ap (differs snapshots) (memory-kept m done left) ∙ same
        | inr empty ↦ differs-empty snapshots t.dmem empty
      ] in
      sym (nothing-hit b snapshots t still none.0)

  -- steps after which a test lets the run go on
  come-on : (ends : ℕ → ℕ → Bool → Bool) (k j : ℕ) (m : State) → Asks ends b snapshots → IsCome b snapshots moves n s k m None → k + j ≤ n → ((i : ℕ) → i < j → (step_of (steps_of i m)).0 ≡ Done)
      → ((i : ℕ) → i < j → ends_after ends (steps_of i m) ≡ false) → ((i : ℕ) → i < j → is_at_move moves (steps_of i m) ≡ false) → IsCome b snapshots moves n s (k + j) (steps_of j m) None
  unfolding steps_of
  come-on ends k zero m asks come within done passes free = subst (λ (x : ℕ). IsCome b snapshots moves n s x m None) (let e : k ≡ k + 0 = omega arith in e) come
  come-on ends k (suc j) m asks come within done passes free =
      let before = come-on ends k j m asks come (omega (arith, within)) (λ i h. done i (omega (arith, h))) (λ i h. passes i (omega (arith, h))) (λ i h. free i (omega (arith, h))) in
      let t = steps_of (suc j) m in
      let one = come-one (k + j) (steps_of j m) before t (omega (arith, within)) (done j (omega arith)) refl (free j (omega arith)) in
      let nothing = lets_pass ends (steps_of j m) asks (done j (omega arith)) (before.same refl) (passes j (omega arith)) in
      let count : k + j + 1 ≡ k + suc j = omega arith in
      subst (λ (x : ℕ). IsCome b snapshots moves n s x t None) count (subst (λ (o : Option Reason). IsCome b snapshots moves n s (k + j + 1) t o) nothing one)

  -- the steps of a run that nothing ends
  pub come-all : (j : ℕ) (t : State) → Asks (λ pc word changes_memory. false) b snapshots → differs snapshots s.dmem ≡ None → IsAfter j s t → j ≤ n → ((i : ℕ) → i < j → is_at_move moves (steps_of i s) ≡ false)
      → IsCome b snapshots moves n s j t None
  come-all j t asks same after within free =
      let come = come-on (λ pc word changes_memory. false) 0 j s asks (come-none 0 refl same) (omega (arith, within)) after.done (λ i h. no-ends (steps_of i s)) free in
      let count : 0 + j ≡ j = omega arith in
      subst (λ (x : State). IsCome b snapshots moves n s j x None) (sym after.reached) (subst (λ (k : ℕ). IsCome b snapshots moves n s k (steps_of j s) None) count come)

  -- the steps of a stretch; after the last one the run tests what it has come to
  pub come-more : (ends : ℕ → ℕ → Bool → Bool) (k j o : ℕ) (m t : State) (old found : Option Reason) → Asks ends b snapshots → IsCome b snapshots moves n s k m old → old ≡ None → IsAfter j m t
      → ((i : ℕ) → i + 1 < j → ends_after ends (steps_of i m) ≡ false) → ((i : ℕ) → i < j → is_at_move moves (steps_of i m) ≡ false) → o ≡ k + j → o ≤ n → 0 < j → found ≡ hit_in b snapshots t → IsCome b snapshots moves n s o t found
  unfolding steps_of
  come-more ends k zero o m t old found asks come none after passes free count within some is = absurd (omega (arith, some))
  come-more ends k (suc j) o m t old found asks come none after passes free count within some is =
      let start = subst (λ (x : Option Reason). IsCome b snapshots moves n s k m x) none come in
      let before = come-on ends k j m asks start (omega (arith, count, within)) (λ i h. after.done i (omega (arith, h))) (λ i h. passes i (omega (arith, h))) (λ i h. free i (omega (arith, h))) in
      let one = come-one (k + j) (steps_of j m) before t (omega (arith, count, within)) (after.done j (omega arith)) after.reached (free j (omega arith)) in
      let sum : k + j + 1 ≡ o = omega (arith, count) in
      subst (λ (x : Option Reason). IsCome b snapshots moves n s o t x) (sym is) (subst (λ (x : ℕ). IsCome b snapshots moves n s x t (hit_in b snapshots t)) sum one)

  -- why a run stops that has found a reason, has made all its steps, or has come to a move
  module _ (k : ℕ) (t : State) (found : Option Reason) (come : IsCome b snapshots moves n s k t found) (all : found ≡ None → step_refusal t ≡ None → k < n → is_at_move moves t ≡ true) where
    reason_by : (o : Option Reason) → found ≡ o → step_refusal t ≡ None → reason_at b (watches_of snapshots) (steps_to_move moves n s) s k ≡ Some (unwrap_or found Limit)
    reason_by (Some r) is free =
        reason-by b (watches_of snapshots) (steps_to_move moves n s) s t k None (Some r) come.after.reached free (sym come.is ∙ is) ∙ ap (λ o. Some (unwrap_or o Limit)) (sym is)
    reason_by None is free =
        reason-by b (watches_of snapshots) (steps_to_move moves n s) s t k None None come.after.reached free (sym come.is ∙ is)
        ∙ limit-is k (steps_to_move moves n s) (move-here moves n k s come.within come.none (λ h. ap (is_at_move moves) (sym come.after.reached) ∙ all is free h)) ∙ ap (λ o. Some (unwrap_or o Limit)) (sym is)

    why_by : (o : Option Reason) (r : Reason) → step_refusal t ≡ o → r ≡ unwrap_or found Limit → reason_at b (watches_of snapshots) (steps_to_move moves n s) s k ≡ Some (unwrap_or o r)
    why_by (Some q) r e is = reason-by b (watches_of snapshots) (steps_to_move moves n s) s t k (Some q) _ come.after.reached e refl
    why_by None r e is = reason_by found refl e ∙ ap Some (sym is)

    pub stop-come : (r : Reason) (stop : Stop) → stop ≡ record { reason = unwrap_or (step_refusal t) r; steps = k; pc = t.pc } → r ≡ unwrap_or found Limit
        → IsStop b (watches_of snapshots) (steps_to_move moves n s) s t stop
    stop-come r stop same is =
        let above = move-above moves n k s come.within come.none in
        subst (λ (x : Stop). IsStop b (watches_of snapshots) (steps_to_move moves n s) s t x) (sym same) (record {
          within = above;
          reached = come.after.reached;
          reason = why_by (step_refusal t) r refl is;
          first = λ i h. come.first i h (steps_to_move moves n s) (omega (arith, h, above));
          pc = refl;
        })

-- It took the records of the history from h to g.
pub record IsGoing (b : List Bool) (snapshots : List (Option Snapshot)) (moves : Moves) (n : ℕ) (s : State) (h : Records) (k : ℕ) (m : State) (g : Records) (found : Option Reason) : Type 0 where
  pub come : IsCome b snapshots moves n s k m found
  pub kept : AreKept k s m h g

-- A run ends after k steps: a last try, if there was one, made no step.
pub record IsOver (moves : Moves) (n k : ℕ) (m t : State) (g i : Records) (found : Option Reason) : Type 0 where
  pub same : t ≡ m
  pub kept : AreKept 0 m t g i
  pub why : found ≡ None → step_refusal t ≡ None → k < n → is_at_move moves t ≡ true

pub over-none : (moves : Moves) (n k : ℕ) (m : State) (g : Records) (found : Option Reason) → (found ≡ None → step_refusal m ≡ None → k < n → is_at_move moves m ≡ true) → IsOver moves n k m m g g found
over-none moves n k m g found why = record { same = refl; kept = kept-none m g; why = why }

module _ (b : List Bool) (snapshots : List (Option Snapshot)) (moves : Moves) (n : ℕ) (s : State) (h : Records) where
  pub go-none : (k : ℕ) → k ≡ 0 → differs snapshots s.dmem ≡ None → IsGoing b snapshots moves n s h k s h None
  go-none k none same = record { come = come-none b snapshots moves n s k none same; kept = subst (λ (x : ℕ). AreKept x s s h h) (sym none) (kept-none s h) }

  pub run-over : (k : ℕ) (m t : State) (g i : Records) (found : Option Reason) → IsGoing b snapshots moves n s h k m g found → IsOver moves n k m t g i found
      → (r : Reason) (stop : Stop) → stop ≡ record { reason = unwrap_or (step_refusal t) r; steps = k; pc = t.pc } → r ≡ unwrap_or found Limit
      → IsRun b (watches_of snapshots) (steps_to_move moves n s) s t h i stop
  run-over k m t g i found going over r stop is e =
      let steps : stop.steps ≡ k = ap (λ (x : Stop). x.steps) is in
      record {
        end = stop-come b snapshots moves n s k t found (subst (λ (x : State). IsCome b snapshots moves n s k x found) (sym over.same) going.come) over.why r stop is e;
        kept = kept-then k 0 stop.steps s m t h g i going.kept over.kept going.come.after.reached (omega (arith, steps));
      }
