-- Where calls lead.
use Rattle.std.proofs.Common.{◌≡◌, ℕ, zero, suc, ◌+◌, ◌-◌, ◌<◌, ◌≤◌, Bool, true, false, List, [], ◌∷◌, length, take, drop, refl, ◌∙◌, ap, arith, subst}
use Rattle.std.specs.Prelude.{slice_index_or, if◌then◌else◌}
use Rattle.std.proofs.lemmas.Bool.Decides.{nat_tests}
use Rattle.rsp_machine.specs.State.{State}
use Rattle.rsp_machine.specs.Step.{step_of}
use Rattle.rsp_machine.specs.Laws.{steps_of, done_steps}
use Rattle.rsp_machine.specs.Transfers.{starts_dma_at}
use Rattle.rsp_machine.specs.declared.step.StepEnd.{StepEnd}
use Rattle.rsp_machine.specs.declared.step.StepEnd.TheVariants.{Done, Halted, Reserved}
use Rattle.rsp_debug.specs.History.{history_by, history_after}
use Rattle.rsp_debug.specs.Debugging.{Debugging, debugging_of, after_debugger_step, after_steps, after_back}
use Rattle.rsp_debug.specs.Calls.{IsAfter, ForwardCall, StepCall, RunCall, accepted_run_steps, call_steps, state_after_call, Call, GoOn, GoBack, Tally, after_forward_call, is_accepted, after_call, after_calls, Undoes}
use Rattle.rsp_debug.proofs.DoneSteps.{after-none, after-then, after-answer, after-call}
use Rattle.rsp_debug.proofs.Stretches.{made-state}
use Rattle.rsp_debug.proofs.HistoryRecords.{state_back}

-- the past of the state after m steps from s: those after m - 1, m - 2 and so on
abbrev Trails : State → ℕ → List State → Type 0
Trails s m [] = Unit {0}
Trails s zero (p ∷ ps) = ⊥
Trails s (suc m) (p ∷ ps) = (p ≡ steps_of m s) × Trails s m ps

trails-take : (s : State) (m n : ℕ) (ps : List State) → Trails s m ps → Trails s m (take n ps)
trails-take s m zero ps h = tt
trails-take s m (suc n) [] h = tt
trails-take s zero (suc n) (p ∷ ps) h = absurd h
trails-take s (suc m) (suc n) (p ∷ ps) h = (h.0, trails-take s m n ps h.1)

-- n states back, of at most as many as there are
record BackFrom (s : State) (m n : ℕ) (t d : State) (ps : List State) : Type 0 where
  within : n ≤ m
  state : slice_index_or (t ∷ ps) n d ≡ steps_of (m - n) s
  past : Trails s (m - n) (drop n ps)

back_from : (s : State) (m n : ℕ) (t d : State) (ps : List State) → t ≡ steps_of m s → Trails s m ps → n ≤ length ps → BackFrom s m n t d ps
back_from s m zero t d ps e h l =
    let k : m ≡ m - 0 = omega arith in
    record {
      within = omega arith;
      state = e ∙ ap (λ j. steps_of j s) k;
      past = let P : ℕ → Type 0 = λ j. Trails s j ps in subst P k h;
    }
back_from s m (suc n) t d [] e h l = absurd (omega arith)
back_from s zero (suc n) t d (p ∷ ps) e h l = absurd h
back_from s (suc m) (suc n) t d (p ∷ ps) e h l =
    let b = back_from s m n p d ps h.0 h.1 (omega arith) in
    let w : n ≤ m = b.within in
    let k : m - n ≡ suc m - suc n = omega arith in
    record {
      within = omega arith;
      state = b.state ∙ ap (λ j. steps_of j s) k;
      past = let P : ℕ → Type 0 = λ j. Trails s j (drop n ps) in subst P k b.past;
    }

-- what holds after m steps that returned Done and weren't undone
record Sound (s : State) (m : ℕ) (d : Debugging) : Type 0 where
  after : IsAfter m s d.state
  past : Trails s m d.past

sound_at : (s : State) (m n : ℕ) (d : Debugging) → m ≡ n → Sound s m d → Sound s n d
sound_at s m n d e h = let P : ℕ → Type 0 = λ k. Sound s k d in subst P e h

trails_at : (s : State) (m n : ℕ) (ps : List State) → m ≡ n → Trails s m ps → Trails s n ps
trails_at s m n ps e h = let P : ℕ → Type 0 = λ k. Trails s k ps in subst P e h

trails_by : (end : StepEnd) (b : Bool) (s : State) (m depth : ℕ) (x : State) (past : List State) → x ≡ steps_of m s → Trails s m past → Trails s (m + done_steps end) (history_by end b depth x past)
trails_by Done false s m depth x past e h = trails_at s (suc m) (m + 1) (take depth (x ∷ past)) (omega arith) (trails-take s (suc m) depth (x ∷ past) (e, h))
trails_by Done true s m depth x past e h = tt
trails_by Halted b s m depth x past e h = trails_at s m (m + 0) past (omega arith) h
trails_by (Reserved w) b s m depth x past e h = trails_at s m (m + 0) past (omega arith) h

step_sound : (s : State) (m : ℕ) (d : Debugging) → Sound s m d → Sound s (m + done_steps (step_of d.state).0) (after_debugger_step d)
unfolding history_after
step_sound s m d h =
    let end = (step_of d.state).0 in
    record {
      after = after-then m (done_steps end) s d.state (step_of d.state).1 h.after (after-answer d.state end refl);
      past = trails_by end (starts_dma_at d.state) s m d.depth d.state d.past h.after.reached h.past;
    }

steps_sound : (s : State) (k m : ℕ) (d : Debugging) → Sound s m d → ((j : ℕ) → j < k → (step_of (steps_of j d.state)).0 ≡ Done) → Sound s (m + k) (after_steps k d)
unfolding after_steps
steps_sound s zero m d h done = sound_at s m (m + 0) d (omega arith) h
steps_sound s (suc k) m d h done =
    let here : (step_of (after_steps k d).state).0 ≡ Done = ap (λ (x : State). (step_of x).0) (made-state k d) ∙ done k (omega arith) in
    let e : m + k + done_steps (step_of (after_steps k d).state).0 ≡ m + suc k = omega (arith, ap done_steps here) in
    sound_at s _ (m + suc k) _ e (step_sound s (m + k) (after_steps k d) (steps_sound s k m d h (λ j l. done j (omega (arith, l)))))

going_sound : (s : State) (call : ForwardCall) (m : ℕ) (d : Debugging) → Sound s m d → Sound s (m + call_steps call d.state) (after_forward_call call d)
unfolding call_steps state_after_call after_forward_call
going_sound s StepCall m d h = step_sound s m d h
going_sound s (RunCall b w count) m d h = steps_sound s (accepted_run_steps b w count d.state) m d h (after-call (RunCall b w count) d.state).done

accepted_within : (n : ℕ) (d : Debugging) → is_accepted n d ≡ true → n ≤ length d.past
accepted_within n d e = grind (arith, nat_tests)

accepted_some : (n : ℕ) (d : Debugging) → is_accepted n d ≡ true → 0 < n
accepted_some n d e = grind (arith, nat_tests)

-- what holds after any calls
record Sounds (s : State) (t : Tally) : Type 0 where
  left : ℕ
  count : t.done ≡ left + t.taken
  sound : Sound s left t.debugging

back_by : (b : Bool) (s : State) (n : ℕ) (t : Tally) → (b ≡ true → n ≤ length t.debugging.past) → (b ≡ true → 0 < n) → Sounds s t
    → Sounds s (if b then record t { debugging = after_back n t.debugging; taken = t.taken + n } else t)
back_by false s n t l some h = h
back_by true s n t l some h =
    let d = t.debugging in let after = h.sound.after in
    let b = back_from s h.left n d.state d.state d.past after.reached h.sound.past (l refl) in
    record {
      left = h.left - n;
      count = omega (arith, h.count, b.within);
      sound = record {
        after = record { done = λ j v. after.done j (omega (arith, v)); reached = state_back d.state d.past n (some refl) ∙ b.state };
        past = b.past;
      };
    }

call_sound : (s : State) (call : Call) (t : Tally) → Sounds s t → Sounds s (after_call call t)
call_sound s (GoOn call) t h = record {
  left = h.left + call_steps call t.debugging.state;
  count = omega (arith, h.count);
  sound = going_sound s call h.left t.debugging h.sound;
}
call_sound s (GoBack n) t h = back_by (is_accepted n t.debugging) s n t (accepted_within n t.debugging) (accepted_some n t.debugging) h

calls_sound : (s : State) (calls : List Call) (t : Tally) → Sounds s t → Sounds s (after_calls calls t)
calls_sound s [] t h = h
calls_sound s (c ∷ cs) t h = calls_sound s cs (after_call c t) (call_sound s c t h)

pub undoes : Undoes
undoes s depth calls =
    let start : Tally = record { debugging = debugging_of depth s; done = 0; taken = 0 } in
    let end : Tally = after_calls calls start in
    let h = calls_sound s calls start (record { left = 0; count = refl; sound = record { after = after-none s; past = tt } }) in
    let left : h.left ≡ end.done - end.taken = omega (arith, h.count) in
    (omega (arith, h.count), subst (λ (k : ℕ). IsAfter k s end.debugging.state) left h.sound.after)
