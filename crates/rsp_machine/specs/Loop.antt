-- What holds of the steps that a loop has made, and why it ends.
use Rattle.std.specs.Prelude.{ℕ, ◌≡◌, ◌≢◌, ◌<◌, ◌≤◌, ◌+◌, ◌-◌, ◌⊎◌, Bool, true, false, not, List, length, drop, slice_get, Option, Some}
use Rattle.rsp_machine.specs.State.{State}
use Rattle.rsp_machine.specs.Step.{step_of}
use Rattle.rsp_machine.specs.Laws.{steps_of, done_steps, done_of}
use Rattle.rsp_machine.specs.Undo.{Saved, after_step_from, record_at, undone}
use Rattle.rsp_machine.specs.Footprint.{makes_no_dma}
use Rattle.rsp_machine.specs.Transfers.{starts_dma_at}
use Rattle.rsp_machine.specs.LoopTests.{IsRanged}
use Rattle.rsp_decode.specs.declared.scalar.MoveOp.{MoveOp}
use Rattle.rsp_machine.specs.Until.{ends_after, refuses_at}
use Rattle.rsp_machine.specs.declared.footprint.Footprint.{Footprint}

-- k steps lead from s to t, and all are Done
pub record AreDone (k : ℕ) (s t : State) : Type 0 where
  pub state : t ≡ steps_of k s
  pub done : done_of k s ≡ k

-- no two steps have the same recorder
abbrev pub IsInjective : (ℕ → ℕ) → Type 0
IsInjective slot = (i j : ℕ) → slot i ≡ slot j → i ≡ j

-- a recorder got the step from s
pub record HasRecorded {K : Type 0} (saves : Footprint → State → K → K) (s : State) (o : Option K) : Type 0 where
  pub before : K
  pub told : o ≡ Some (after_step_from saves s before)
  pub ranged : IsRanged s

-- The recorders after k steps from s: those of the steps have saved, and no other has changed.
pub record HaveRecorded {K : Type 0} (saves : Footprint → State → K → K) (slot : ℕ → ℕ) (k : ℕ) (s : State) (old new : List K) : Type 0 where
  pub told : IsInjective slot → (i : ℕ) → i < k → HasRecorded saves (steps_of i s) (slice_get new (slot i))
  pub rest : (j : ℕ) → ((i : ℕ) → i < k → slot i ≢ j) → slice_get new j ≡ slice_get old j
  pub len : length new ≡ length old

-- Why a loop ends after k steps from s, at t: the next step isn't Done, or a test refuses it, or the last one started a DMA and the loop ends
-- at one, or a test ended the loop.
abbrev pub LoopEnd : Bool → (ℕ → ℕ → Bool → Bool) → (MoveOp → ℕ → Bool) → ℕ → State → State → Type 0
LoopEnd at_dma ends refuses k s t =
    (done_steps (step_of t).0 ≡ 0) ⊎ (refuses_at refuses t ≡ true) ⊎ ((0 < k) × (((at_dma ≡ true) × (starts_dma_at (steps_of (k - 1) s) ≡ true)) ⊎ (ends_after ends (steps_of (k - 1) s) ≡ true)))

-- What a run with records promises. Its k steps lead from s to t, all Done, and only the last may start a DMA. The first k records are theirs: each
-- undoes its step, unless that starts a DMA. The others stay.
pub record AreRecorded (k : ℕ) (s t : State) (old new : List Saved) : Type 0 where
  pub within : k ≤ length old
  pub made : AreDone k s t
  pub before : (i : ℕ) → i + 1 < k → starts_dma_at (steps_of i s) ≡ false
  pub which : (i : ℕ) → i < k → makes_no_dma (record_at new i).footprint ≡ not (starts_dma_at (steps_of i s))
  pub back : (i : ℕ) → i < k → starts_dma_at (steps_of i s) ≡ false → undone (record_at new i) (steps_of (i + 1) s) ≡ steps_of i s
  pub rest : drop k new ≡ drop k old
  pub len : length new ≡ length old
