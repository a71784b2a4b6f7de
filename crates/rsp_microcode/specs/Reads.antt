-- What reads return after writes.
use Rattle.std.specs.Prelude.{ℕ, ◌≡◌, ◌<◌, ◌%◌, ◌^◌, ◌==◌, Bool, true, not, nat_lt, if◌then◌else◌, List, [], ◌∷◌, length, slice_index_or}
use Rattle.std.specs.List.{list_all}
use Rattle.rsp_memory.specs.Memory.{byte_at, with_byte, word_at, with_word}
use Rattle.rsp_lanes.specs.Lanes.{each_lane, IsVector}
use Rattle.rsp_scalar.specs.Registers.{register, with_register}
use Rattle.rsp_loadstore.specs.File.{vector, with_vector}
use Rattle.rsp_microcode.specs.Lanes.{lanes_at, with_lanes, IsOutside}

-- a write of a register: its number, and what it gets
abbrev pub Write : Type 0 → Type 0
Write X = ℕ × X

-- all of them are to registers below 32
abbrev pub are_registers : {X : Type 0} → List (Write X) → Bool
are_registers ws = list_all (λ w. nat_lt w.0 32) ws

-- the registers after writes, the first one first
abbrev pub after_writes : {X : Type 0} → (List X → ℕ → X → List X) → List (Write X) → List X → List X
after_writes write [] file = file
after_writes write (w ∷ ws) file = after_writes write ws (write file w.0 w.1)

-- what register n holds after writes, if it held v before: it computes if the numbers are given
abbrev pub last_written : {X : Type 0} → List (Write X) → ℕ → X → X
last_written [] n v = v
last_written (w ∷ ws) n v = last_written ws n (if n == w.0 then w.1 else v)

-- a vector register after writes of vector registers
abbrev pub VectorReads : Type 0
VectorReads = (ws : List (Write (List ℕ))) (file : List (List ℕ)) (n : ℕ) → length file ≡ 32 → are_registers ws ≡ true
    → vector (after_writes with_vector ws file) n ≡ last_written ws n (vector file n)

-- a scalar register but register 0 after writes of scalar registers
abbrev pub ScalarReads : Type 0
ScalarReads = (ws : List (Write ℕ)) (r : List ℕ) (n : ℕ) → length r ≡ 32 → are_registers ws ≡ true → not (n == 0) ≡ true
    → register (after_writes with_register ws r) n ≡ last_written ws n (register r n)

-- one lane of what an instruction made lane by lane: a result, an accumulator, a flag
abbrev pub LaneReads : Type 0
LaneReads = (f : ℕ → ℕ) (i : ℕ) → i < 8 → slice_index_or (each_lane f) i 0 ≡ f i

-- a byte of DMEM after a write of one
abbrev pub ByteReads : Type 0
ByteReads = (m : List ℕ) (a b n : ℕ) → length m ≡ 4096
    → byte_at (with_byte m a n) b ≡ (if a % 4096 == b % 4096 then n else byte_at m b)

-- a word of DMEM after a write of one, both at aligned addresses
abbrev pub WordReads : Type 0
WordReads = (m : List ℕ) (a b n : ℕ) → length m ≡ 4096 → n < 2 ^ 32 → a % 4 ≡ 0 → b % 4 ≡ 0
    → word_at (with_word m a n) b ≡ (if a % 4096 == b % 4096 then n else word_at m b)

-- eight lanes of DMEM after a write of eight, both at aligned addresses
abbrev pub LanesReads : Type 0
LanesReads = (m : List ℕ) (a b : ℕ) (v : List ℕ) → length m ≡ 4096 → IsVector v → a % 16 ≡ 0 → b % 16 ≡ 0
    → lanes_at (with_lanes m a v) b ≡ (if a % 4096 == b % 4096 then v else lanes_at m b)

-- and a byte outside of them
abbrev pub OthersRead : Type 0
OthersRead = (m : List ℕ) (a x : ℕ) (v : List ℕ) → length v ≡ 8 → IsOutside a 16 x → byte_at (with_lanes m a v) x ≡ byte_at m x
