-- Going on by stretches of steps.
use Rattle.std.proofs.Common.{◌≡◌, ◌≢◌, ℕ, zero, suc, ◌+◌, List, refl, ap, sym, ◌∙◌, arith, Bool, true, false, Option, Some, None}
use Rattle.std.specs.Prelude.{is_some, not}
use Rattle.rsp_machine.specs.State.{State}
use Rattle.rsp_machine.specs.Step.{step_of}
use Rattle.rsp_machine.specs.Laws.{steps_of, done_steps}
use Rattle.rsp_machine.specs.Undo.{Saved}
use Rattle.rsp_machine.specs.Transfers.{starts_dma_at}
use Rattle.rsp_machine.specs.declared.step.StepEnd.{StepEnd}
use Rattle.rsp_machine.specs.declared.step.StepEnd.TheVariants as end
use Rattle.rsp_machine.proofs.LoopSteps.{steps-add}
use Rattle.rsp_debug.specs.History.{history_by, history_after, history_after_steps}
use Rattle.rsp_debug.specs.HistoryRing.{Records, states_before}
use Rattle.rsp_debug.specs.Debugging.{Debugging, after_steps}
use Rattle.rsp_debug.specs.Calls.{IsAfter}
use Rattle.rsp_debug.specs.Runs.{AreKept}
use Rattle.rsp_debug.proofs.Reasons.{step-still}

-- n steps of a debugger are n steps of its machine, and fill its past
abbrev pub made : ℕ → Debugging → Debugging
made k d = record d { state = steps_of k d.state; past = history_after_steps k d.depth d.state d.past }

pub made-is : (k : ℕ) (d : Debugging) → after_steps k d ≡ made k d
unfolding after_steps steps_of history_after_steps
made-is zero d = refl
made-is (suc k) d = ap (λ (x : Debugging). let y : Debugging = record x { state = (step_of x.state).1; past = history_after x.depth x.state x.past } in y) (made-is k d)

pub made-state : (k : ℕ) (d : Debugging) → (after_steps k d).state ≡ steps_of k d.state
made-state k d = ap (λ (x : Debugging). x.state) (made-is k d)

pub past-none : (depth : ℕ) (s : State) (past : List State) → history_after_steps 0 depth s past ≡ past
unfolding history_after_steps
past-none depth s past = refl

pub past-add : (k j n : ℕ) (s : State) (past : List State) → history_after_steps (k + j) n s past ≡ history_after_steps j n (steps_of k s) (history_after_steps k n s past)
unfolding history_after_steps
past-add k zero n s past = ap (λ i. history_after_steps i n s past) (let e : k + 0 ≡ k = omega arith in e)
past-add k (suc j) n s past =
    ap (λ i. history_after_steps i n s past) (let e : k + suc j ≡ suc (k + j) = omega arith in e)
    ∙ ap (λ (x : State). history_after n x (history_after_steps (k + j) n s past)) (steps-add k j s)
    ∙ ap (history_after n (steps_of j (steps_of k s))) (past-add k j n s past)

-- a step that isn't Done leaves the machine and the history
not_done : (e : StepEnd) (b : Bool) (n : ℕ) (s : State) (past : List State) → done_steps e ≡ 0 → history_by e b n s past ≡ past
not_done end.Done b n s past h = absurd (omega (arith, h))
not_done end.Halted b n s past h = refl
not_done (end.Reserved w) b n s past h = refl

pub single-none : (k n : ℕ) (s t u : State) (rs : List Saved) (past : List State) → k ≡ 0 → t ≡ steps_of k s → done_steps (step_of t).0 ≡ 0 → u ≡ (step_of t).1 → states_before t rs ≡ history_after_steps k n s past
    → (u ≡ (step_of s).1) × (states_before u rs ≡ history_after n s past)
unfolding steps_of history_after_steps history_after
single-none k n s t u rs past none there stuck moved kept =
    let same : t ≡ s = there ∙ ap (λ i. steps_of i s) none in
    let still : u ≡ t = moved ∙ step-still t stuck in (
      moved ∙ ap (λ (x : State). (step_of x).1) same,
      ap (λ (x : State). states_before x rs) still ∙ kept ∙ ap (λ i. history_after_steps i n s past) none
          ∙ sym (not_done (step_of s).0 (starts_dma_at s) n s past (ap (λ (x : State). done_steps (step_of x).0) (sym same) ∙ stuck)),
    )

-- and the code's answer to one
ends_none : (e : StepEnd) → e ≢ end.Done → done_steps e ≡ 0
ends_none end.Done other = absurd (other refl)
ends_none end.Halted other = refl
ends_none (end.Reserved w) other = refl

pub not-done : (s t : State) (e : StepEnd) → e ≡ (step_of s).0 → t ≡ (step_of s).1 → e ≢ end.Done → (t ≡ s) × (done_steps (step_of s).0 ≡ 0)
not-done s t e is there other =
    let none = ap done_steps (sym is) ∙ ends_none e other in
    (there ∙ step-still s none, none)

pub not-done-past : (n : ℕ) (s : State) (past : List State) (e : StepEnd) → e ≡ (step_of s).0 → e ≢ end.Done → history_after n s past ≡ past
unfolding history_after
not-done-past n s past e is other = not_done (step_of s).0 (starts_dma_at s) n s past (ap done_steps (sym is) ∙ ends_none e other)

-- the parts of a run's loop
pub no-one : {X : Type 0} (o : Option X) (b : Bool) → is_some o ≡ not b → b ≡ true → o ≡ None
no-one None b e h = refl
no-one (Some x) b e h = let no : true ≡ false = e ∙ ap not h in cc

pub some-one : {X : Type 0} (o : Option X) (b : Bool) (Y : Type 0) → is_some o ≡ not b → b ≡ false → o ≡ None → Y
some-one o b Y e h none = let no : false ≡ true = sym (ap is_some none) ∙ e ∙ ap not h in cc

pub after-zero : (k : ℕ) (s t : State) → k ≡ 0 → IsAfter k s t → t ≡ s
unfolding steps_of
after-zero k s t none h = h.reached ∙ ap (λ i. steps_of i s) none

pub kept-none : (s : State) (h : Records) → AreKept 0 s s h h
kept-none s h = record { past = sym (past-none h.depth s (states_before s h.newest)); depth = refl }

pub kept-then : (k j o : ℕ) (s m t : State) (h g i : Records) → AreKept k s m h g → AreKept j m t g i → m ≡ steps_of k s → o ≡ k + j → AreKept o s t h i
kept-then k j o s m t h g i first second there count =
    let past = states_before s h.newest in
    record {
      past = second.past ∙ ap (λ d. history_after_steps j d m (states_before m g.newest)) first.depth ∙ ap (history_after_steps j h.depth m) first.past
          ∙ ap (λ (x : State). history_after_steps j h.depth x (history_after_steps k h.depth s past)) there
          ∙ sym (past-add k j h.depth s past) ∙ ap (λ q. history_after_steps q h.depth s past) (sym count);
      depth = second.depth ∙ first.depth;
    }
