-- Passing over a move of an SP register instead of executing it, and over one that starts a DMA.
use Rattle.std.specs.Prelude.{ℕ, Bool, true, false, Option, None, Some, Result, Ok, Err, if◌then◌else◌}
use Rattle.rsp_decode.specs.declared.inst.Inst.{Inst}
use Rattle.rsp_decode.specs.declared.inst.Inst.TheVariants.{MoveSp}
use Rattle.rsp_decode.specs.declared.scalar.MoveOp.{MoveOp}
use Rattle.rsp_decode.specs.declared.scalar.MoveOp.TheVariants.{From, To}
use Rattle.rsp_decode.specs.Table.{inst_of}
use Rattle.rsp_memory.specs.Memory.{word_at}
use Rattle.rsp_scalar.specs.Registers.{register, with_register}
use Rattle.rsp_machine.specs.State.{State, advanced}
use Rattle.rsp_machine.specs.Step.{after_single_step, step_of}
use Rattle.rsp_machine.specs.Transfers.{starts_dma_at}
use Rattle.rsp_machine.specs.declared.pass.PassFault.{PassFault}
use Rattle.rsp_machine.specs.declared.pass.PassFault.TheVariants.{Halted, OtherWord}

-- whether a move writes its SP register
abbrev pub is_write : MoveOp → Bool
is_write From = false
is_write To = true

-- the state after a move was passed over: register rt of an MFC0 becomes the value, and an MTC0 writes nothing
abbrev pub after_pass : MoveOp → ℕ → ℕ → State → State
after_pass From rt value s = after_single_step (record (advanced s) { registers = with_register s.registers rt value })
after_pass To rt value s = after_single_step (advanced s)

-- the same for the instruction at pc, which must be such a move
abbrev pub pass_by : Option Inst → ℕ → State → Result State PassFault
pass_by (Some (MoveSp op rt n)) value s = Ok (after_pass op rt value s)
pass_by _ value s = Err OtherWord

-- passing over the word at pc: the state after it, or why that is refused
unfoldable pub pass_of : ℕ → State → Result State PassFault
pass_of value s = if s.sp.halted then Err Halted else pass_by (inst_of (word_at s.imem s.pc)) value s

-- Passing over the DMA at pc, whose bytes the host moves: the state after the step, but with the memories as they were; or why that is
-- refused.
unfoldable pub pass_dma_of : State → Result State PassFault
pass_dma_of s =
    if s.sp.halted then Err Halted
    else if starts_dma_at s then Ok (record (step_of s).1 { dmem = s.dmem; imem = s.imem; rdram = s.rdram })
    else Err OtherWord
