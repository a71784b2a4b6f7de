-- A described DMA, as a host moves its bytes.
use Rattle.std.specs.Prelude.{ℕ, ◌≡◌, ◌+◌, ◌*◌, ◌==◌, List, Some, if◌then◌else◌}
use Rattle.std.specs.List.{range_with_len, flat_map}
use Rattle.rsp_regs.specs.Sp.{IsSp, after_register_write}
use Rattle.rsp_regs.specs.Dma.{row_pairs, copied_in, copied_out}
use Rattle.rsp_regs.specs.Described.{described}
use Rattle.rsp_regs.specs.declared.dma.Dma.{Dma}
use Rattle.rsp_machine.specs.State.{State}
use Rattle.rsp_machine.specs.Host.{register_written}

-- The pairs (address in the bank, address in the RDRAM) of row r, and of all rows: in the bank they are one after the other, and in the
-- RDRAM with `skip` bytes between two rows.
abbrev pub described_row : Dma → ℕ → List (ℕ × ℕ)
described_row d r = row_pairs (d.address + r * d.length) (d.rdram + r * (d.length + d.skip)) d.length

abbrev pub described_pairs : Dma → List (ℕ × ℕ)
described_pairs d = flat_map (described_row d) (range_with_len 0 d.rows)

-- the state after the bytes of all pairs were copied: into the RDRAM, or from it into IMEM or DMEM
abbrev pub moved_as_described : Dma → State → State
moved_as_described d s =
    if d.to_rdram == 1 then record s { rdram = copied_out (if d.bank == 1 then s.imem else s.dmem) s.rdram (described_pairs d) }
    else if d.bank == 1 then record s { imem = copied_in s.rdram s.imem (described_pairs d) }
    else record s { dmem = copied_in s.rdram s.dmem (described_pairs d) }

-- a write that does a described DMA moves its bytes so, and changes the SP registers, and does nothing else
abbrev pub DescribedDmasMove : Type 0
DescribedDmasMove = (n v : ℕ) (s : State) (d : Dma) → IsSp s.sp → described n v s.sp ≡ Some d
    → register_written n v s ≡ record (moved_as_described d s) { sp = after_register_write n v s.sp }
