-- A write of an SP register by a host that owns the RDRAM, and moves the bytes of a DMA itself.
use Rattle.std.specs.Prelude.{ℕ, unwrap_or}
use Rattle.rsp_regs.specs.Described.{no_dma, described}
use Rattle.rsp_regs.specs.declared.dma.Dma.{Dma}
use Rattle.rsp_machine.specs.State.{State}
use Rattle.rsp_machine.specs.Host.{register_written}

-- the state after such a write of v to register n, modulo 16: the state after a write, but with the memories as they were
abbrev pub dma_written : ℕ → ℕ → State → State
dma_written n v s = record (register_written n v s) { dmem = s.dmem; imem = s.imem; rdram = s.rdram }

-- the DMA that the write starts, as an event describes one; zeros if it starts none
abbrev pub dma_of_write : ℕ → ℕ → State → Dma
dma_of_write n v s = unwrap_or (described n v s.sp) no_dma
