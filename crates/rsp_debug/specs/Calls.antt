-- What calls of a debugger do, one after the other, and the laws of runs and of steps back.
use Rattle.std.specs.Prelude.{◌≡◌, ◌<◌, ◌≤◌, ◌+◌, ◌-◌, ℕ, List, [], ◌∷◌, length, Bool, ◌&&◌, nat_le, Option, if◌then◌else◌}
use Rattle.rsp_machine.specs.State.{State}
use Rattle.rsp_machine.specs.Step.{step_of}
use Rattle.rsp_machine.specs.Laws.{steps_of, done_steps}
use Rattle.rsp_machine.specs.declared.step.StepEnd.TheVariants.{Done}
use Rattle.rsp_debug.specs.declared.stop.Watch.{Watch}
use Rattle.rsp_debug.specs.Stops.{run_steps, stop_of, IsStop}
use Rattle.rsp_debug.specs.Debugging.{Debugging, debugging_of, after_debugger_step, after_steps, after_back}

-- n steps from a state all return Done, and lead to another
pub record IsAfter (n : ℕ) (s t : State) : Type 0 where
  pub done : (k : ℕ) → k < n → (step_of (steps_of k s)).0 ≡ Done
  pub reached : t ≡ steps_of n s

-- a step, or a run of at most n steps with breakpoints and watches of its own
pub data ForwardCall : Type 0 where
  StepCall : ForwardCall
  RunCall : List Bool → List (Option Watch) → ℕ → ForwardCall

-- whether a run or a step back takes this count
abbrev pub is_count : ℕ → Bool
is_count n = nat_le 1 n && nat_le n 1000000

-- how many steps a run makes; none if it is refused
abbrev pub accepted_run_steps : List Bool → List (Option Watch) → ℕ → State → ℕ
accepted_run_steps breaks watches n s = if is_count n then run_steps breaks watches n s else 0

-- how many steps of such a call return Done
unfoldable pub call_steps : ForwardCall → State → ℕ
call_steps StepCall s = done_steps (step_of s).0
call_steps (RunCall breaks watches n) s = accepted_run_steps breaks watches n s

-- the state after such a call
unfoldable pub state_after_call : ForwardCall → State → State
state_after_call StepCall s = (step_of s).1
state_after_call (RunCall breaks watches n) s = steps_of (accepted_run_steps breaks watches n s) s

-- how many steps of a list of such calls return Done in all
abbrev pub steps_of_calls : List ForwardCall → State → ℕ
steps_of_calls [] s = 0
steps_of_calls (call ∷ calls) s = call_steps call s + steps_of_calls calls (state_after_call call s)

-- the state after a list of such calls
abbrev pub state_after_calls : List ForwardCall → State → State
state_after_calls [] s = s
state_after_calls (call ∷ calls) s = state_after_calls calls (state_after_call call s)

-- However steps and runs are cut, the state is that after as many plain steps as returned Done.
abbrev pub RunsAreSteps : Type 0
RunsAreSteps = (calls : List ForwardCall) (s : State) → IsAfter (steps_of_calls calls s) s (state_after_calls calls s)

-- a run stops at the least number of steps that has a reason, and for the first such reason
abbrev pub RunsStopFirst : Type 0
RunsStopFirst = (breaks : List Bool) (watches : List (Option Watch)) (n : ℕ) (s : State)
    → IsStop breaks watches n s (steps_of (run_steps breaks watches n s) s) (stop_of breaks watches n s)

-- such a call, or a step back by n states
pub data Call : Type 0 where
  GoOn : ForwardCall → Call
  GoBack : ℕ → Call

-- a debugger, how many of its steps returned Done, and how many of them were undone
pub record Tally : Type 0 where
  pub debugging : Debugging
  pub done : ℕ
  pub taken : ℕ

-- the debugger after a step or a run
unfoldable pub after_forward_call : ForwardCall → Debugging → Debugging
after_forward_call StepCall d = after_debugger_step d
after_forward_call (RunCall breaks watches n) d = after_steps (accepted_run_steps breaks watches n d.state) d

-- whether a step back is accepted
abbrev pub is_accepted : ℕ → Debugging → Bool
is_accepted n d = is_count n && nat_le n (length d.past)

abbrev pub after_call : Call → Tally → Tally
after_call (GoOn call) t = record t { debugging = after_forward_call call t.debugging; done = t.done + call_steps call t.debugging.state }
after_call (GoBack n) t = if is_accepted n t.debugging then record t { debugging = after_back n t.debugging; taken = t.taken + n } else t

abbrev pub after_calls : List Call → Tally → Tally
after_calls [] t = t
after_calls (call ∷ calls) t = after_calls calls (after_call call t)

-- From any state with an empty history, after any calls, the state is that after the steps that returned Done, less those undone.
abbrev pub Undoes : Type 0
Undoes = (s : State) (depth : ℕ) (calls : List Call)
    → let start : Tally = record { debugging = debugging_of depth s; done = 0; taken = 0 } in
    let end : Tally = after_calls calls start in
    (end.taken ≤ end.done) × IsAfter (end.done - end.taken) s end.debugging.state
