-- DMEM or IMEM: 4096 bytes, whose addresses wrap. Numbers are big-endian.
use Rattle.std.specs.Prelude.{ℕ, zero, suc, ◌+◌, ◌*◌, ◌/◌, ◌%◌, ◌≡◌, ◌<◌, List, [], ◌∷◌, length, slice_index, slice_set, replicate}
use Rattle.rsp_memory.specs.Runs.{write_all}

-- a memory: 4096 bytes, each below 256
pub record IsMemory (memory : List ℕ) : Type 0 where
  pub count : length memory ≡ 4096
  pub bytes : (i : ℕ) → slice_index memory i < 256

-- the memory at the start: zeros
abbrev pub empty_memory : List ℕ
empty_memory = replicate 4096 0

-- the byte at an address modulo 4096
unfoldable pub byte_at : List ℕ → ℕ → ℕ
byte_at memory a = slice_index memory (a % 4096)

-- the halfword at an address; the address of each byte is taken modulo 4096
unfoldable pub half_at : List ℕ → ℕ → ℕ
half_at memory a = byte_at memory a * 256 + byte_at memory (a + 1)

-- the word at an address; the address of each byte is taken modulo 4096
unfoldable pub word_at : List ℕ → ℕ → ℕ
word_at memory a =
    byte_at memory a * 16777216 + byte_at memory (a + 1) * 65536 + byte_at memory (a + 2) * 256 + byte_at memory (a + 3)

-- the memory after a write of one byte at an address modulo 4096
unfoldable pub with_byte : List ℕ → ℕ → ℕ → List ℕ
with_byte memory a b = slice_set memory (a % 4096) b

-- the memory after a write of a halfword at an address, whose high byte comes first
unfoldable pub with_half : List ℕ → ℕ → ℕ → List ℕ
with_half memory a h = with_byte (with_byte memory a (h / 256)) (a + 1) (h % 256)

-- the memory after a write of a word at an address, whose highest byte comes first
unfoldable pub with_word : List ℕ → ℕ → ℕ → List ℕ
with_word memory a w =
    let first = with_byte memory a (w / 16777216) in
    let second = with_byte first (a + 1) (w / 65536 % 256) in
    let third = with_byte second (a + 2) (w / 256 % 256) in
    with_byte third (a + 3) (w % 256)

-- the n bytes from an address on
abbrev pub bytes_at : List ℕ → ℕ → ℕ → List ℕ
bytes_at memory a zero = []
bytes_at memory a (suc n) = byte_at memory a ∷ bytes_at memory (a + 1) n

-- the memory after a write of consecutive bytes from an address on
abbrev pub with_bytes : List ℕ → ℕ → List ℕ → List ℕ
with_bytes memory a bytes = write_all with_byte memory a bytes
