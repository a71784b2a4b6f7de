-- A DMA as a host sees it that moves the bytes itself.
use Rattle.std.specs.Prelude.{ℕ, ◌+◌, ◌/◌, Option, Some, None, if◌then◌else◌}
use Rattle.rsp_regs.specs.Sp.{Sp, transfer, is_rd_len, is_wr_len}
use Rattle.rsp_regs.specs.declared.dma.Dma.{Dma}

abbrev pub no_dma : Dma
no_dma = record { bank = 0; address = 0; rdram = 0; length = 0; rows = 0; skip = 0; to_rdram = 0 }

-- the DMA of a word, into the RDRAM if `to_rdram` is 1; its bank is bit 12 of SP_MEM_ADDR, the highest one
abbrev pub dma_of : ℕ → ℕ → Sp → Dma
dma_of to_rdram word s =
    let t = transfer word s in
    record { bank = s.memory / 4096; address = t.sp; rdram = t.dram; length = t.length; rows = t.count + 1; skip = t.skip; to_rdram = to_rdram }

-- the DMA that a write of a word to register n does, if n is a length register
abbrev pub described : ℕ → ℕ → Sp → Option Dma
described n word s = if is_rd_len n then Some (dma_of 0 word s) else if is_wr_len n then Some (dma_of 1 word s) else None
