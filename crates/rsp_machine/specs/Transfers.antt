-- Which steps start a DMA.
use Rattle.std.specs.Prelude.{Bool, false, Option, Some, None}
use Rattle.rsp_decode.specs.declared.inst.Inst.{Inst}
use Rattle.rsp_decode.specs.declared.inst.Inst.TheVariants.{MoveSp}
use Rattle.rsp_decode.specs.declared.scalar.MoveOp.TheVariants.{To}
use Rattle.rsp_decode.specs.Table.{inst_of}
use Rattle.rsp_memory.specs.Memory.{word_at}
use Rattle.rsp_machine.specs.State.{State}
use Rattle.rsp_regs.specs.Sp.{is_length_register}

-- whether an instruction starts a DMA
abbrev pub starts_dma : Inst → Bool
starts_dma (MoveSp To rt n) = is_length_register n
starts_dma _ = false

-- whether a word starts a DMA, by the instruction that it is
abbrev pub starts_dma_in : Option Inst → Bool
starts_dma_in None = false
starts_dma_in (Some i) = starts_dma i

-- whether the word at pc starts a DMA: it moves a scalar register to one of the two length registers
unfoldable pub starts_dma_at : State → Bool
starts_dma_at s = starts_dma_in (inst_of (word_at s.imem s.pc))
