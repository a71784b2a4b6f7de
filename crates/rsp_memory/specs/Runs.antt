-- Writes of consecutive bytes.
use Rattle.std.specs.Prelude.{ℕ, ◌+◌, List, [], ◌∷◌}

-- a memory after bytes are written, one by one, to the addresses from a on
abbrev pub write_all : {X : Type 0} → (X → ℕ → ℕ → X) → X → ℕ → List ℕ → X
write_all write memory a [] = memory
write_all write memory a (b ∷ bs) = write_all write (write memory a b) (a + 1) bs
