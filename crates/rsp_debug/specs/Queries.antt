-- What queries return.
use Rattle.std.specs.Prelude.{ℕ, ◌+◌, ◌*◌, List, map}
use Rattle.std.specs.List.{range_with_len}
use Rattle.rsp_memory.specs.Memory.{byte_at, word_at}
use Rattle.rsp_memory.specs.Image.{image_byte}
use Rattle.rsp_memory.specs.declared.bank.Bank.{Bank}
use Rattle.rsp_memory.specs.declared.bank.Bank.TheVariants.{Dmem, Imem, Rdram}
use Rattle.rsp_syntax.specs.Disassembly.{disassembly}
use Rattle.rsp_machine.specs.State.{State}

-- the byte at an address of a bank
abbrev pub bank_byte : Bank → State → ℕ → ℕ
bank_byte Dmem s a = byte_at s.dmem a
bank_byte Imem s a = byte_at s.imem a
bank_byte Rdram s a = image_byte s.rdram a

-- the n bytes of a bank from an address on
unfoldable pub memory_of : Bank → State → ℕ → ℕ → List ℕ
memory_of bank s a n = map (λ i. bank_byte bank s (a + i)) (range_with_len 0 n)

-- an address of IMEM, the word there, and its canonical text
pub record ListedWord : Type 0 where
  pub place : ℕ
  pub word : ℕ
  pub text : List ℕ

abbrev pub listing_line : State → ℕ → ListedWord
listing_line s address = record { place = address; word = word_at s.imem address; text = disassembly (word_at s.imem address) address }

-- the n words from an address of IMEM on
unfoldable pub listing_of : State → ℕ → ℕ → List ListedWord
listing_of s address n = map (λ i. listing_line s (address + 4 * i)) (range_with_len 0 n)
