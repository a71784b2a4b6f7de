-- What C gets it can set, and what it sets it gets. What C does at a DMA is a step, or the write that starts the DMA.
use Rattle.std.specs.Prelude.{◌≡◌, ◌<◌, ℕ, List, length, slice_index, IsOkAnd}
use Rattle.rsp_machine.specs.State.{State, IsState}
use Rattle.rsp_machine.specs.Registers.{registers_of, with_registers}
use Rattle.rsp_machine.specs.Host.{register_written}
use Rattle.rsp_machine.specs.Step.{step_of}
use Rattle.rsp_machine.specs.Pass.{pass_dma_of}
use Rattle.rsp_machine.specs.DescribedDmas.{moved_as_described}
use Rattle.rsp_debug.specs.Debugging.{Debugging}
use Rattle.rsp_c.specs.declared.c_structs.RspState.{RspState}
use Rattle.rsp_c.specs.States.{c_state, registers_from_c}
use Rattle.rsp_c.specs.Faults.{state_fault}
use Rattle.rsp_c.specs.Events.{event_of, after_event}
use Rattle.rsp_c.specs.DmaWrites.{dma_written, dma_of_write}

-- The registers of a machine, as brsp_get gives them, have no fault, and set again in it they leave it.
abbrev pub SetAsGot : Type 0
SetAsGot = (s : State) → IsState s
    → (state_fault (c_state (registers_of s) s.sp) ≡ 0)
    × (with_registers (registers_from_c (c_state (registers_of s) s.sp)) s ≡ s)

-- eight numbers of sixteen bits
abbrev pub AreHalves : List ℕ → Type 0
AreHalves xs = (length xs ≡ 8) × ((i : ℕ) → slice_index xs i < 65536)

-- the ranges of a state's numbers, which their types in C give
pub record IsRspState (g : RspState) : Type 0 where
  pub high : AreHalves g.accumulators.high
  pub middle : AreHalves g.accumulators.middle
  pub low : AreHalves g.accumulators.low
  pub carry : g.flags.carry < 256
  pub differ : g.flags.differ < 256
  pub compare : g.flags.compare < 256
  pub clip : g.flags.clip < 256
  pub extra : g.flags.extra < 256
  pub sp : length g.sp ≡ 16

-- A state without a fault, set in a machine, is what brsp_get then gives, with 0 for `zero`.
abbrev pub GotAsSet : Type 0
GotAsSet = (g : RspState) (s : State) → IsRspState g → state_fault g ≡ 0
    → c_state (registers_of (with_registers (registers_from_c g) s)) (with_registers (registers_from_c g) s).sp ≡ record g { zero = 0 }

-- Where an event reports a DMA, passing over it is accepted; if the bytes are then copied as the event describes, the state is that after a
-- step.
abbrev pub EventsAreSteps : Type 0
EventsAreSteps = (n reads writes : ℕ) (d : Debugging) →
    let event = event_of n reads writes d in let s = (after_event n reads writes d).state in
    IsState s → event.at.stop.reason ≡ 6 → IsOkAnd (pass_dma_of s) (λ t. moved_as_described event.dma t ≡ (step_of s).1)

-- What brsp_write_dma leaves is, once the bytes are copied as the call describes them, what brsp_write leaves. If the write starts no DMA, the
-- zeros describe no bytes.
abbrev pub DmaWritesAreWrites : Type 0
DmaWritesAreWrites = (n value : ℕ) (s : State) → IsState s → moved_as_described (dma_of_write n value s) (dma_written n value s) ≡ register_written n value s
