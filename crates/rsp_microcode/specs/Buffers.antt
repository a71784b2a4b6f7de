-- Buffers of vectors in DMEM. A loop fills one of them vector by vector.
use Rattle.std.specs.Prelude.{ℕ, ◌≡◌, ◌⊎◌, ◌+◌, ◌*◌, ◌%◌, ◌<◌, ◌≤◌, List, length}
use Rattle.rsp_memory.specs.Memory.{byte_at}
use Rattle.rsp_microcode.specs.Lanes.{lanes_at, with_lanes, IsOutside}

-- a buffer of n vectors of 16 bytes at an aligned address in DMEM
pub record IsBuffer (a n : ℕ) : Type 0 where
  pub aligned : a % 16 ≡ 0
  pub inside : a + 16 * n ≤ 4096

-- Filling a buffer from a on overwrites no vector of a buffer of n vectors at b that is still to be read: it begins at b, or before b, or
-- after that buffer's end.
abbrev pub SparesBuffer : ℕ → ℕ → ℕ → Type 0
SparesBuffer a b n = (a ≤ b) ⊎ (b + 16 * n ≤ a)

-- DMEM `after` holds f 0 to f (k - 1) from a on, and every other byte is that of `before`
pub record IsFilled (f : ℕ → List ℕ) (before after : List ℕ) (a k : ℕ) : Type 0 where
  pub vectors : (j : ℕ) → j < k → lanes_at after (a + 16 * j) ≡ f j
  pub outside : (x : ℕ) → IsOutside a (16 * k) x → byte_at after x ≡ byte_at before x

-- at the start nothing is filled
abbrev pub FilledNone : Type 0
FilledNone = (f : ℕ → List ℕ) (m : List ℕ) (a : ℕ) → IsFilled f m m a 0

-- a store of the next vector fills one more
abbrev pub FilledOne : Type 0
FilledOne = (f : ℕ → List ℕ) (m t : List ℕ) (a n k : ℕ) → IsBuffer a n → k < n → length t ≡ 4096 → length (f k) ≡ 8
    → IsFilled f m t a k → IsFilled f m (with_lanes t (a + 16 * k) (f k)) a (k + 1)

-- the next vector of a spared buffer is as it was at the start
abbrev pub FilledSpares : Type 0
FilledSpares = (f : ℕ → List ℕ) (m t : List ℕ) (a b n k : ℕ) → IsBuffer a n → IsBuffer b n → SparesBuffer a b n → k < n
    → IsFilled f m t a k → lanes_at t (b + 16 * k) ≡ lanes_at m (b + 16 * k)
