-- The history of a debugger: the states that steps back reach.
use Rattle.std.specs.Prelude.{ℕ, zero, suc, List, [], ◌∷◌, take, Bool, true, false}
use Rattle.rsp_machine.specs.State.{State}
use Rattle.rsp_machine.specs.Step.{step_of}
use Rattle.rsp_machine.specs.Laws.{steps_of}
use Rattle.rsp_machine.specs.Transfers.{starts_dma_at}
use Rattle.rsp_machine.specs.declared.step.StepEnd.{StepEnd}
use Rattle.rsp_machine.specs.declared.step.StepEnd.TheVariants.{Done, Halted, Reserved}

-- The history after a step from s, by what the step returns and whether it starts a DMA: a step that is Done adds s as the newest,
-- a DMA empties the history, and a step that isn't Done leaves it.
abbrev pub history_by : StepEnd → Bool → ℕ → State → List State → List State
history_by Done false depth s past = take depth (s ∷ past)
history_by Done true depth s past = []
history_by Halted b depth s past = past
history_by (Reserved w) b depth s past = past

unfoldable pub history_after : ℕ → State → List State → List State
history_after depth s past = history_by (step_of s).0 (starts_dma_at s) depth s past

-- the history after n steps from s
unfoldable pub history_after_steps : ℕ → ℕ → State → List State → List State
history_after_steps zero depth s past = past
history_after_steps (suc n) depth s past = history_after depth (steps_of n s) (history_after_steps n depth s past)
