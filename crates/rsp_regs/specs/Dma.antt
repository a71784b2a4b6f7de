-- A DMA as a list of pairs (address in a bank, address in the RDRAM), ordered by row, then byte.
-- Sources: Nintendo's RSP Programmer's Guide; the N64brew Wiki's page "Reality Signal Processor/Interface".
use Rattle.std.specs.Prelude.{ℕ, ◌+◌, ◌*◌, ◌%◌, ◌≡◌, ◌<◌, ◌≤◌, List, map}
use Rattle.std.specs.List.{range_with_len, flat_map, fold}
use Rattle.rsp_memory.specs.Memory.{byte_at, with_byte}
use Rattle.rsp_memory.specs.Image.{image_byte, with_image_byte}
use Rattle.rsp_regs.specs.declared.transfer.Transfer.{Transfer}

-- the ranges of a DMA's parts
pub record IsTransfer (t : Transfer) : Type 0 where
  pub sp : t.sp < 4096
  pub dram : t.dram < 16777216
  pub length : t.length ≤ 4096
  pub count : t.count < 256
  pub skip : t.skip < 4096

-- addresses, length and skip are multiples of 8
pub record AreMultiplesOf8 (t : Transfer) : Type 0 where
  pub sp : t.sp % 8 ≡ 0
  pub dram : t.dram % 8 ≡ 0
  pub length : t.length % 8 ≡ 0
  pub skip : t.skip % 8 ≡ 0

-- the pairs of one row, in order: addresses in a bank count modulo 4096, those in the RDRAM modulo 2^24
unfoldable pub row_pairs : ℕ → ℕ → ℕ → List (ℕ × ℕ)
row_pairs sp dram length = map (λ i. (sp + i, dram + i)) (range_with_len 0 length)

-- the pairs of row r, and those of the first n rows in order
abbrev pub row : Transfer → ℕ → List (ℕ × ℕ)
row t r = row_pairs (t.sp + r * t.length) (t.dram + r * (t.length + t.skip)) t.length

unfoldable pub first_rows : Transfer → ℕ → List (ℕ × ℕ)
first_rows t n = flat_map (row t) (range_with_len 0 n)

abbrev pub pairs : Transfer → List (ℕ × ℕ)
pairs t = first_rows t (t.count + 1)

-- one pair is copied, into a bank, and out of it
abbrev pub bank_after_pair : List ℕ → List ℕ → ℕ × ℕ → List ℕ
bank_after_pair image bank p = with_byte bank p.0 (image_byte image p.1)

abbrev pub image_after_pair : List ℕ → List ℕ → ℕ × ℕ → List ℕ
image_after_pair bank image p = with_image_byte image p.1 (byte_at bank p.0)

-- a bank, and the image, after the pairs are copied in order: a later pair wins
unfoldable pub copied_in : List ℕ → List ℕ → List (ℕ × ℕ) → List ℕ
copied_in image bank ps = fold (bank_after_pair image) bank ps

unfoldable pub copied_out : List ℕ → List ℕ → List (ℕ × ℕ) → List ℕ
copied_out bank image ps = fold (image_after_pair bank) image ps
