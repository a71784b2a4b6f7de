-- Vector stores as lists of pairs: what is stored, and its address.
-- Sources: Nintendo's RSP Programmer's Guide, chapter on vector unit instructions; the N64brew Wiki's page "Reality Signal Processor/CPU Core".
-- That STV's rule also holds for an odd element, and at an address that isn't a multiple of 16, is our choice.
use Rattle.std.specs.Prelude.{ℕ, ◌≡◌, ◌⊎◌, ◌+◌, ◌-◌, ◌*◌, ◌/◌, ◌%◌, List, if◌then◌else◌, nat_lt}
use Rattle.std.specs.List.{fold}
use Rattle.rsp_memory.specs.Memory.{with_byte}
use Rattle.rsp_lanes.specs.Lanes.{register_byte}
use Rattle.rsp_decode.specs.declared.inst.Inst.{Inst}
use Rattle.rsp_decode.specs.declared.inst.Inst.TheVariants.{VectorStore}
use Rattle.rsp_decode.specs.declared.vector.VectorStoreOp.{VectorStoreOp}
use Rattle.rsp_decode.specs.declared.vector.VectorStoreOp.TheVariants.{Sbv, Ssv, Slv, Sdv, Sqv, Srv, Spv, Suv, Shv, Sfv, Swv, Stv}
use Rattle.rsp_loadstore.specs.Pairs.{for_each, quadword_start, wrapped_address, group_start, down_to_even, minus_modulo_16}
use Rattle.rsp_loadstore.specs.File.{vector, bits_14_to_7}

-- one pair: a byte of a register, or bits 14 to 7 of the sixteen bits at a byte and the next, modulo 16, goes to an
-- address; the address is modulo 4096
pub data Store : Type 0 where
  from_byte : (register byte address : ℕ) → Store
  from_bits_14_to_7 : (register byte address : ℕ) → Store

-- the memory after one pair is applied
unfoldable pub stored : List (List ℕ) → List ℕ → Store → List ℕ
stored file memory (from_byte r i a) = with_byte memory a (register_byte (vector file r) i)
stored file memory (from_bits_14_to_7 r i a) = with_byte memory a (bits_14_to_7 (vector file r) i)

-- the memory after the pairs are applied in order
unfoldable pub after_store : List (List ℕ) → List ℕ → List Store → List ℕ
after_store file memory ps = fold (stored file) memory ps

-- the high byte of a lane goes to an address
abbrev pub high_byte_pair : ℕ → ℕ → ℕ → Store
high_byte_pair vt lane a = from_byte vt (2 * lane) a

-- bits 14 to 7 of a lane go to an address
abbrev pub bits_14_to_7_pair : ℕ → ℕ → ℕ → Store
bits_14_to_7_pair vt lane a = from_bits_14_to_7 vt (2 * lane) a

-- SPV: for j below 8 the high byte of lane j, else bits 14 to 7 of lane j - 8
abbrev pub spv_pair : ℕ → ℕ → ℕ → Store
spv_pair vt j a = if nat_lt j 8 then high_byte_pair vt j a else bits_14_to_7_pair vt (j % 8) a

-- SUV: for j below 8 bits 14 to 7 of lane j, else the high byte of lane j - 8
abbrev pub suv_pair : ℕ → ℕ → ℕ → Store
suv_pair vt j a = if nat_lt j 8 then bits_14_to_7_pair vt j a else high_byte_pair vt (j % 8) a

-- STV, pair k of sixteen, by f, which is e rounded down to an even number: byte k - f, modulo 16, of register k / 2 of
-- vt's group goes to the byte of that number of the sixteen from a's doubleword on
abbrev pub stv_pair : ℕ → ℕ → ℕ → ℕ → Store
stv_pair vt f a k = let j = minus_modulo_16 k f in from_byte (group_start vt + k / 2) j (wrapped_address a j)

-- The pairs of each store, by its register vt, its element e and its address a. SBV, SSV, SLV and SDV store 1, 2, 4 and
-- 8 bytes, SQV as many as fit from a to the end of a's quadword, SRV as many as there are in the quadword before a. SPV
-- and SUV pack lanes into bytes one after the other, SHV into every second byte, SFV four lanes into every fourth. SWV
-- stores all bytes, rotated, and STV a lane of each of the eight registers of a group.
-- The numbers of register bytes, and the second argument of `wrapped_address`, count modulo 16.
unfoldable pub store_pairs : VectorStoreOp → ℕ → ℕ → ℕ → List Store
store_pairs Sbv vt e a = for_each 1 (λ k. from_byte vt ((e + k) % 16) (a + k))
store_pairs Ssv vt e a = for_each 2 (λ k. from_byte vt ((e + k) % 16) (a + k))
store_pairs Slv vt e a = for_each 4 (λ k. from_byte vt ((e + k) % 16) (a + k))
store_pairs Sdv vt e a = for_each 8 (λ k. from_byte vt ((e + k) % 16) (a + k))
store_pairs Sqv vt e a = for_each (16 - a % 16) (λ k. from_byte vt ((e + k) % 16) (a + k))
store_pairs Srv vt e a = for_each (a % 16) (λ k. from_byte vt (minus_modulo_16 (e + k) (a % 16)) (quadword_start a + k))
store_pairs Spv vt e a = for_each 8 (λ k. spv_pair vt ((e + k) % 16) (a + k))
store_pairs Suv vt e a = for_each 8 (λ k. suv_pair vt ((e + k) % 16) (a + k))
store_pairs Shv vt e a = for_each 8 (λ j. from_bits_14_to_7 vt ((e + 2 * j) % 16) (wrapped_address a (2 * j)))
store_pairs Sfv vt e a = for_each 4 (λ j. bits_14_to_7_pair vt (e / 2 + j) (wrapped_address a (4 * j)))
store_pairs Swv vt e a = for_each 16 (λ j. from_byte vt ((e + j) % 16) (wrapped_address a j))
store_pairs Stv vt e a = for_each 16 (stv_pair vt (down_to_even e) a)

-- the elements of SFV are 0 and 8
abbrev pub IsStoreElement : VectorStoreOp → ℕ → Type 0
IsStoreElement Sfv e = (e ≡ 0) ⊎ (e ≡ 8)
IsStoreElement _ e = Unit {0}

-- the memory after a vector store at the address a; another instruction changes nothing
unfoldable pub memory_after_store : Inst → ℕ → List (List ℕ) → List ℕ → List ℕ
memory_after_store (VectorStore op f) a file memory = after_store file memory (store_pairs op f.vt f.element a)
memory_after_store _ a file memory = memory
