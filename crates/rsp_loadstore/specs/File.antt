-- The vector registers, as a list of 32 lists of eight lanes.
use Rattle.std.specs.Prelude.{ℕ, ◌≡◌, ◌<◌, ◌+◌, ◌*◌, ◌/◌, ◌%◌, List, [], length, replicate, slice_index_or, slice_set}
use Rattle.rsp_lanes.specs.Lanes.{each_lane, register_byte, IsVector}

-- the registers at the start: zeros
unfoldable pub empty_file : List (List ℕ)
empty_file = replicate 32 (each_lane (λ _. 0))

-- register n
unfoldable pub vector : List (List ℕ) → ℕ → List ℕ
vector file n = slice_index_or file n []

-- the ranges of the registers: 32, each of eight lanes below 2^16
pub record IsFile (file : List (List ℕ)) : Type 0 where
  pub count : length file ≡ 32
  pub registers : (n : ℕ) → n < 32 → IsVector (vector file n)

-- the registers after a write of register n
unfoldable pub with_vector : List (List ℕ) → ℕ → List ℕ → List (List ℕ)
with_vector file n v = slice_set file n v

-- bits 14 to 7 of the sixteen bits at bytes i and i + 1, modulo 16
unfoldable pub bits_14_to_7 : List ℕ → ℕ → ℕ
bits_14_to_7 v i = (register_byte v i * 256 + register_byte v ((i + 1) % 16)) / 128 % 256
