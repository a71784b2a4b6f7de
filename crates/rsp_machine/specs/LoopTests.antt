-- Scaffolding of proofs: what the code requires of a footprint, and what the loop of steps tests after an instruction.
use Rattle.std.specs.Prelude.{ℕ, ◌+◌, ◌<◌, ◌≡◌, not, Option, option_map, unwrap_or}
use Rattle.rsp_numbers.specs.Numbers.{AreNumbers}
use Rattle.rsp_lanes.specs.Flags.{flags_at, all_flags}
use Rattle.rsp_loadstore.specs.File.{IsFile}
use Rattle.rsp_decode.specs.declared.inst.Inst.{Inst}
use Rattle.rsp_machine.specs.State.{State}
use Rattle.rsp_machine.specs.Step.{executed}
use Rattle.rsp_machine.specs.Footprint.{footprint_of, changes_memory, makes_no_dma, reaches_sp}
use Rattle.rsp_machine.specs.declared.footprint.Footprint.{Footprint}
use Rattle.rsp_machine.specs.declared.footprint.StepTests.{StepTests}
use Rattle.rsp_machine.specs.declared.footprint.Footprint.TheVariants as of

-- the last register that a footprint names
abbrev pub last_register : Footprint → ℕ
last_register (of.Register n) = n
last_register (of.Vector n) = n
last_register (of.Group n) = n + 7
last_register (of.Product n) = n
last_register (of.Low n) = n
last_register (of.Sum n) = n
last_register (of.Choice n) = n
last_register (of.Clip n) = n
last_register (of.Divide n) = n
last_register (of.Sp n) = n
last_register _ = 0

abbrev pub IsFootprint : Footprint → Type 0
IsFootprint f = last_register f < 32

-- the ranges of the vector unit, on which undoing a step depends
pub record IsRanged (s : State) : Type 0 where
  pub vectors : IsFile s.vectors
  pub accumulators : AreNumbers s.accumulators
  pub flags : s.flags ≡ all_flags (flags_at s.flags)

-- what the loop of steps tests after an instruction with a footprint
abbrev pub tests_of : Footprint → StepTests
tests_of f = record { sp = reaches_sp f; changes_memory = changes_memory f; dma = not (makes_no_dma f) }

-- what the loop tests after an instruction, if there is one; and the state after it
abbrev pub tests_in : State → Option Inst → Option StepTests
tests_in s o = option_map (λ i. tests_of (footprint_of i s)) o

abbrev pub state_after : State → Option Inst → State
state_after s o = unwrap_or (option_map (λ i. executed i s) o) s
