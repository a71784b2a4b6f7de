-- Runs of steps.
use Rattle.std.specs.Prelude.{ℕ, zero, suc, ◌+◌}
use Rattle.rsp_machine.specs.State.{State}
use Rattle.rsp_machine.specs.Step.{step_of}
use Rattle.rsp_machine.specs.declared.step.StepEnd.{StepEnd}
use Rattle.rsp_machine.specs.declared.step.StepEnd.TheVariants.{Done, Halted, Reserved}

-- the state after n steps, whatever their answers
unfoldable pub steps_of : ℕ → State → State
steps_of zero s = s
steps_of (suc n) s = (step_of (steps_of n s)).1

-- how many steps are Done, of one step with this answer
abbrev pub done_steps : StepEnd → ℕ
done_steps Done = 1
done_steps Halted = 0
done_steps (Reserved word) = 0

-- How many of n steps are Done. After a step that isn't Done nothing changes, so no later step is Done.
unfoldable pub done_of : ℕ → State → ℕ
done_of zero s = 0
done_of (suc n) s = done_of n s + done_steps (step_of (steps_of n s)).0
