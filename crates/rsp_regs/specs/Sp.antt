-- The SP registers: what a read returns, and what a write, a DMA and instructions change.
-- Sources: Nintendo's RSP Programmer's Guide; the N64brew Wiki's page "Reality Signal Processor/Interface".
use Rattle.std.specs.Prelude.{ℕ, ◌+◌, ◌*◌, ◌/◌, ◌%◌, ◌^◌, ◌<◌, ◌≡◌, Bool, true, false, ◌||◌, List, ◌∷◌, length, map, replicate, slice_index, slice_index_or, slice_set, nat_lt, if◌then◌else◌, ◌-◌, ◌==◌}
use Rattle.std.specs.List.{range_with_len, sum_by}
use Rattle.rsp_numbers.specs.Numbers.{bit_set}
use Rattle.rsp_regs.specs.declared.transfer.Transfer.{Transfer}
use Rattle.rsp_regs.specs.Dma.{pairs, copied_in, copied_out}

-- the registers, and the interrupt flag, which is in none of their words
pub record Sp : Type 0 where
  pub memory : ℕ  -- SP_MEM_ADDR: an address of 12 bits, and bit 12, which is set if the bank is IMEM
  pub dram : ℕ  -- SP_DRAM_ADDR, of 24 bits
  pub skip : ℕ  -- the skip of the last DMA
  pub halted : Bool
  pub broke : Bool
  pub single_step : Bool
  pub intbreak : Bool
  pub signals : List Bool
  pub interrupt : Bool
  pub semaphore : Bool
  pub dpc : List ℕ  -- the eight DPC registers, which keep what is written

-- the start: zeros
abbrev pub start : Sp
start = record {
  memory = 0;
  dram = 0;
  skip = 0;
  halted = false;
  broke = false;
  single_step = false;
  intbreak = false;
  signals = replicate 8 false;
  interrupt = false;
  semaphore = false;
  dpc = replicate 8 0;
}

-- a flag's bit: its weight if the flag is set, else 0
abbrev pub flag : Bool → ℕ → ℕ
flag b weight = if b then weight else 0

-- signal n
abbrev pub signal : List Bool → ℕ → Bool
signal signals n = slice_index_or signals n false

-- SP_STATUS, as a read returns it: bit 0 halted, 1 broke, 5 single step, 6 intbreak, 7 to 14 the signals
unfoldable pub status : Sp → ℕ
status s =
    flag s.halted 1 + flag s.broke 2 + flag s.single_step 32 + flag s.intbreak 64
    + sum_by (λ n. flag (signal s.signals n) (2 ^ (7 + n))) (range_with_len 0 8)

-- both length registers, as a read returns them: the last DMA's skip in bits 31 to 20, and FF8 hex
abbrev pub length_word : Sp → ℕ
length_word s = s.skip * 1048576 + 4088

-- the sixteen registers, as reads return them, in the order of their numbers
abbrev pub words : Sp → List ℕ
words s = s.memory ∷ s.dram ∷ length_word s ∷ length_word s ∷ status s ∷ 0 ∷ 0 ∷ flag s.semaphore 1 ∷ s.dpc

-- what a read of register n returns; numbers are taken modulo 16
unfoldable pub read_value : ℕ → Sp → ℕ
read_value n s = slice_index (words s) (n % 16)

-- the registers after a read of register n: a read of the semaphore takes it
unfoldable pub after_read : ℕ → Sp → Sp
after_read n s = if n % 16 == 7 then record s { semaphore = true } else s

-- a flag after a write of v: bit n clears it, and bit n + 1 sets it; both or neither keep it
abbrev pub after_clear_set : ℕ → ℕ → Bool → Bool
after_clear_set v n old = if bit_set v n then (if bit_set v (n + 1) then old else false) else (if bit_set v (n + 1) then true else old)

-- the registers after a write of SP_STATUS: twelve pairs (clear, set), and bit 2, which clears broke
unfoldable pub after_status_write : ℕ → Sp → Sp
after_status_write v s = record s {
  halted = after_clear_set v 0 s.halted;
  broke = if bit_set v 2 then false else s.broke;
  interrupt = after_clear_set v 3 s.interrupt;
  single_step = after_clear_set v 5 s.single_step;
  intbreak = after_clear_set v 7 s.intbreak;
  signals = map (λ n. after_clear_set v (9 + 2 * n) (signal s.signals n)) (range_with_len 0 8);
}

-- the DMA of a word v that is written to a length register: the length is bits 11 to 0 with the low three bits set,
-- plus 1; the count is bits 19 to 12; the skip is bits 31 to 20 with the low three bits clear
unfoldable pub transfer : ℕ → Sp → Transfer
transfer v s = record {
  sp = s.memory % 4096;
  dram = s.dram;
  length = v % 4096 / 8 * 8 + 8;
  count = v / 4096 % 256;
  skip = v / 1048576 / 8 * 8;
}

-- the registers after a DMA: the bank is kept, and the last row adds no skip
unfoldable pub after_dma : Transfer → Sp → Sp
after_dma t s = record s {
  memory = s.memory / 4096 * 4096 + (t.sp + (t.count + 1) * t.length) % 4096;
  dram = (t.dram + (t.count + 1) * t.length + t.count * t.skip) % 16777216;
  skip = t.skip;
}

-- whether register n is SP_RD_LEN, whose write copies from the RDRAM, or SP_WR_LEN, whose write copies to it
abbrev pub is_rd_len : ℕ → Bool
is_rd_len n = n % 16 == 2

abbrev pub is_wr_len : ℕ → Bool
is_wr_len n = n % 16 == 3

-- whether register n is a length register, whose write does a DMA
abbrev pub is_length_register : ℕ → Bool
is_length_register n = is_rd_len n || is_wr_len n

-- The registers after a write of v to register n. 0 keeps bits 12 to 3 of v, 1 bits 23 to 3. 2 and 3 do a DMA. 4 is
-- SP_STATUS. 5 and 6 keep nothing. 7 is cleared, whatever v is. 8 to 15, the DPC registers, keep all of v.
unfoldable pub after_register_write : ℕ → ℕ → Sp → Sp
after_register_write n v s =
    let k = n % 16 in
    if k == 0 then record s { memory = v % 8192 / 8 * 8 }
    else if k == 1 then record s { dram = v % 16777216 / 8 * 8 }
    else if is_length_register n then after_dma (transfer v s) s
    else if k == 4 then after_status_write v s
    else if k == 7 then record s { semaphore = false }
    else if nat_lt k 8 then s
    else record s { dpc = slice_set s.dpc (k - 8) v }

-- whether the bank is IMEM: bit 12 of SP_MEM_ADDR
abbrev pub is_imem : Sp → Bool
is_imem s = bit_set s.memory 12

-- DMEM, and IMEM, after the DMA of v from the RDRAM, which goes into the bank of SP_MEM_ADDR
unfoldable pub dmem_from_rdram : ℕ → Sp → List ℕ → List ℕ → List ℕ
dmem_from_rdram v s image dmem = if is_imem s then dmem else copied_in image dmem (pairs (transfer v s))

unfoldable pub imem_from_rdram : ℕ → Sp → List ℕ → List ℕ → List ℕ
imem_from_rdram v s image imem = if is_imem s then copied_in image imem (pairs (transfer v s)) else imem

-- the RDRAM after the DMA of v from that bank
unfoldable pub rdram_from_bank : ℕ → Sp → List ℕ → List ℕ → List ℕ → List ℕ
rdram_from_bank v s dmem imem image = copied_out (if is_imem s then imem else dmem) image (pairs (transfer v s))

-- the registers after a BREAK
unfoldable pub after_break : Sp → Sp
after_break s = record s { halted = true; broke = true; interrupt = s.interrupt || s.intbreak }

-- the registers after an instruction: single step sets halted
unfoldable pub after_step : Sp → Sp
after_step s = record s { halted = s.halted || s.single_step }

-- the registers after the start of a task: signals 0, 1 and 2 are cleared
unfoldable pub after_task : Sp → Sp
after_task s = record s {
  halted = false;
  broke = false;
  intbreak = true;
  signals = slice_set (slice_set (slice_set s.signals 0 false) 1 false) 2 false;
}

-- the ranges of SP_MEM_ADDR, which keeps bits 12 to 3, of SP_DRAM_ADDR, which keeps bits 23 to 3, and of the skip, bits
-- 11 to 3
pub record AreSpRanges (m d k : ℕ) : Type 0 where
  pub memory : (m < 8192) × (m % 8 ≡ 0)
  pub dram : (d < 16777216) × (d % 8 ≡ 0)
  pub skip : (k < 4096) × (k % 8 ≡ 0)

-- the ranges of the registers
pub record IsSp (s : Sp) : Type 0 where
  pub kept : AreSpRanges s.memory s.dram s.skip
  pub signals : length s.signals ≡ 8
  pub dpc : length s.dpc ≡ 8
  pub words : (i : ℕ) → slice_index s.dpc i < 2 ^ 32
