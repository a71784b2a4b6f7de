-- An address that is a sum of 32 bits.
use Rattle.std.proofs.Common.{◌≡◌, ℕ, ◌%◌, List, ap, arith}
use Rattle.std.specs.Prelude.{slice_index, slice_set}
use Rattle.rsp_memory.specs.Memory.{byte_at, with_byte}

ring_address : (n : ℕ) → n % 4294967296 % 4096 ≡ n % 4096
ring_address n = omega arith

pub byte_at-wrapped : (m : List ℕ) (n : ℕ) → byte_at m (n % 4294967296) ≡ byte_at m n
unfolding byte_at
byte_at-wrapped m n = ap (λ k. slice_index m k) (ring_address n)

pub with_byte-wrapped : (m : List ℕ) (n b : ℕ) → with_byte m (n % 4294967296) b ≡ with_byte m n b
unfolding with_byte
with_byte-wrapped m n b = ap (λ k. slice_set m k b) (ring_address n)

pub ruleset wrapped = (byte_at-wrapped, with_byte-wrapped)
