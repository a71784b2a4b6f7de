-- Steps that all answer Done.
use Rattle.std.proofs.Common.{◌≡◌, ℕ, ◌+◌, ◌-◌, ◌<◌, List, [], ◌∷◌, refl, ap, sym, ◌∙◌, arith, Bool, true, false, cond, Option, Some, None, inl, inr, subst}
use Rattle.std.specs.Prelude.{is_some, unwrap_or}
use Rattle.std.proofs.lemmas.Bool.{cases_lt}
use Rattle.rsp_machine.specs.State.{State}
use Rattle.rsp_machine.specs.Step.{step_of}
use Rattle.rsp_machine.specs.Laws.{steps_of, done_steps, done_of}
use Rattle.rsp_machine.specs.declared.step.StepEnd.{StepEnd}
use Rattle.rsp_machine.specs.declared.step.StepEnd.TheVariants as end
use Rattle.rsp_machine.proofs.LoopSteps.{steps-add}
use Rattle.rsp_machine.proofs.Records.{done-each}
use Rattle.rsp_debug.specs.declared.stop.Watch.{Watch}
use Rattle.rsp_debug.specs.declared.stop.Reason.{Reason}
use Rattle.rsp_debug.specs.declared.stop.Reason.TheVariants.{Limit}
use Rattle.rsp_debug.specs.Stops.{reason_at, run_steps, stop_of, IsStop}
use Rattle.rsp_debug.specs.Runs.{step_refusal}
use Rattle.rsp_debug.specs.Calls.{IsAfter, ForwardCall, StepCall, RunCall, is_count, call_steps, state_after_call, steps_of_calls, state_after_calls}
use Rattle.rsp_debug.proofs.Least.{least-is, least-passes}
use Rattle.rsp_debug.proofs.Reasons.{goes-on, step-still, steps-none, steps-more, hit_of, reason-by, reason-goes, limit-is}

pub after-none : (s : State) → IsAfter 0 s s
after-none s = record { done = λ k h. absurd (omega arith); reached = sym (steps-none s) }

after_done : (m n : ℕ) (s t u : State) → IsAfter m s t → IsAfter n t u → (k : ℕ) → k < m + n → (step_of (steps_of k s)).0 ≡ end.Done
after_done m n s t u first second k h =
    elim (cases_lt k m) [
      | inl early ↦ first.done k early
      | inr late ↦
          let split : k ≡ m + (k - m) = omega arith in
          let there : steps_of k s ≡ steps_of (k - m) t =
          ap (λ i. steps_of i s) split ∙ steps-add m (k - m) s ∙ ap (λ (x : State). steps_of (k - m) x) (sym first.reached) in
          ap (λ (x : State). (step_of x).0) there ∙ second.done (k - m) (omega arith)
    ]

pub after-then : (m n : ℕ) (s t u : State) → IsAfter m s t → IsAfter n t u → IsAfter (m + n) s u
after-then m n s t u first second = record {
  done = after_done m n s t u first second;
  reached = second.reached ∙ ap (λ (x : State). steps_of n x) first.reached ∙ sym (steps-add m n s);
}

pub no-some : {X : Type 0} (o : Option X) → is_some o ≡ false → o ≡ None
no-some None e = refl
no-some (Some x) e = cc

pub no-reason : (b : List Bool) (w : List (Option Watch)) (n : ℕ) (s : State) (j : ℕ) → j < run_steps b w n s → reason_at b w n s j ≡ None
unfolding run_steps
no-reason b w n s j h = no-some _ ((least-is (λ k. is_some (reason_at b w n s k)) n).before j h)

pub after-run : (b : List Bool) (w : List (Option Watch)) (n : ℕ) (s : State) → IsAfter (run_steps b w n s) s (steps_of (run_steps b w n s) s)
after-run b w n s = record {
  done = λ k h. goes-on (steps_of k s) (reason-goes b w n s k (no-reason b w n s k h));
  reached = refl;
}

-- a step
pub after-answer : (s : State) (e : StepEnd) → (step_of s).0 ≡ e → IsAfter (done_steps e) s (step_of s).1
after-answer s end.Done e = record {
  done = λ k h. ap (λ (x : State). (step_of x).0) (ap (λ i. steps_of i s) (let z : k ≡ 0 = omega arith in z) ∙ steps-none s) ∙ e;
  reached = ap (λ (x : State). (step_of x).1) (sym (steps-none s)) ∙ sym (steps-more 0 s);
}
after-answer s end.Halted e = subst (λ (t : State). IsAfter 0 s t) (sym (step-still s (ap done_steps e))) (after-none s)
after-answer s (end.Reserved w) e = subst (λ (t : State). IsAfter 0 s t) (sym (step-still s (ap done_steps e))) (after-none s)

after_count : (counted : Bool) (k : ℕ) (s : State) → IsAfter k s (steps_of k s) → IsAfter (cond counted k 0) s (steps_of (cond counted k 0) s)
after_count true k s h = h
after_count false k s h = record { done = λ k h. absurd (omega arith); reached = refl }

pub after-call : (call : ForwardCall) (s : State) → IsAfter (call_steps call s) s (state_after_call call s)
unfolding call_steps state_after_call
after-call StepCall s = after-answer s (step_of s).0 refl
after-call (RunCall b w n) s = after_count (is_count n) (run_steps b w n s) s (after-run b w n s)

pub after-calls : (calls : List ForwardCall) (s : State) → IsAfter (steps_of_calls calls s) s (state_after_calls calls s)
after-calls [] s = after-none s
after-calls (call ∷ calls) s = after-then (call_steps call s) (steps_of_calls calls (state_after_call call s)) s (state_after_call call s) _ (after-call call s) (after-calls calls (state_after_call call s))

-- a run has a reason to stop at the least number of steps that has one, which is at most its limit
limit_by : (b : List Bool) (w : List (Option Watch)) (n : ℕ) (s : State) (refusal hit : Option Reason) → step_refusal (steps_of n s) ≡ refusal
    → hit_of b w n (steps_of (n - 1) s) (steps_of n s) ≡ hit → is_some (reason_at b w n s n) ≡ true
limit_by b w n s (Some r) hit e f = ap is_some (reason-by b w n s (steps_of n s) n (Some r) hit refl e f)
limit_by b w n s None (Some r) e f = ap is_some (reason-by b w n s (steps_of n s) n None (Some r) refl e f)
limit_by b w n s None None e f = ap is_some (reason-by b w n s (steps_of n s) n None None refl e f ∙ limit-is n n refl)

the_reason : (o : Option Reason) → is_some o ≡ true → o ≡ Some (unwrap_or o Limit)
the_reason None e = cc
the_reason (Some r) e = refl

pub stop-first : (b : List Bool) (w : List (Option Watch)) (n : ℕ) (s : State) → IsStop b w n s (steps_of (run_steps b w n s) s) (stop_of b w n s)
unfolding stop_of run_steps
stop-first b w n s = record {
  within = (least-is (λ k. is_some (reason_at b w n s k)) n).within;
  reached = refl;
  reason = the_reason _ (least-passes (λ k. is_some (reason_at b w n s k)) n (limit_by b w n s _ _ refl refl));
  first = no-reason b w n s;
  pc = refl;
}

-- one step more, or none
pub after-more : (k : ℕ) (s m t : State) → IsAfter k s m → (step_of m).0 ≡ end.Done → t ≡ (step_of m).1 → IsAfter (k + 1) s t
after-more k s m t h e there = subst (λ (x : State). IsAfter (k + 1) s x) (sym there) (after-then k 1 s m (step_of m).1 h (after-answer m end.Done e))

pub after-one : (s t : State) → (step_of s).0 ≡ end.Done → t ≡ (step_of s).1 → IsAfter 1 s t
after-one s t done there = after-more 0 s s t (after-none s) done there

-- steps that all are Done
pub made-after : (k : ℕ) (s t : State) → done_of k s ≡ k → t ≡ steps_of k s → IsAfter k s t
made-after k s t done there = record { done = done-each k s done; reached = there }

pub ruleset afters = (after-calls, stop-first)
