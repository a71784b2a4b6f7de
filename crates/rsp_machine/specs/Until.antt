-- Tests that end a run of steps.
use Rattle.std.specs.Prelude.{ℕ, Bool, false, Option, Some, None, if◌then◌else◌}
use Rattle.rsp_decode.specs.declared.inst.Inst.{Inst}
use Rattle.rsp_decode.specs.declared.inst.Inst.TheVariants.{MoveSp}
use Rattle.rsp_decode.specs.declared.scalar.MoveOp.{MoveOp}
use Rattle.rsp_decode.specs.Table.{inst_of}
use Rattle.rsp_memory.specs.Memory.{word_at}
use Rattle.rsp_machine.specs.State.{State}
use Rattle.rsp_machine.specs.Step.{step_of}
use Rattle.rsp_machine.specs.Footprint.{footprint_of, changes_memory}

-- whether an instruction, if there is one, may change DMEM: it stores there, or it starts a DMA
abbrev pub changes_memory_by : Option Inst → State → Bool
changes_memory_by None s = false
changes_memory_by (Some i) s = changes_memory (footprint_of i s)

-- whether the word at pc may change DMEM
unfoldable pub changes_memory_at : State → Bool
changes_memory_at s = changes_memory_by (inst_of (word_at s.imem s.pc)) s

-- Whether a test ends a run after the step from a state. It gets the next instruction's pc and word, and whether the step may have changed
-- DMEM.
unfoldable pub ends_after : (ℕ → ℕ → Bool → Bool) → State → Bool
ends_after ends s = let t = (step_of s).1 in ends t.pc (word_at t.imem t.pc) (changes_memory_at s)

-- whether a test refuses an instruction, if there is one: only a move of an SP register, by its direction and its register
abbrev pub refuses_by : (MoveOp → ℕ → Bool) → Option Inst → Bool
refuses_by refuses (Some (MoveSp op rt register)) = refuses op register
refuses_by refuses _ = false

-- whether a test refuses the instruction at pc
unfoldable pub refuses_at : (MoveOp → ℕ → Bool) → State → Bool
refuses_at refuses s = refuses_by refuses (inst_of (word_at s.imem s.pc))

-- an instruction, if there is one and a test doesn't refuse it
abbrev pub permitted : (MoveOp → ℕ → Bool) → Option Inst → Option Inst
permitted refuses i = if refuses_by refuses i then None else i
