-- What contracts see of sources and sinks.
use Rattle.std.specs.Prelude.{ℕ, List}

-- a sink in memory: the bytes that were written, how many bytes it has room for in all, and how many writes failed
pub record MemoryWritten : Type 0 where
  pub bytes : List ℕ
  pub room : ℕ
  pub failures : ℕ

-- a reader or a writer of the standard library, and how many of its calls failed
pub record Counted (A : Type 0) : Type 0 where
  pub inner : A
  pub failures : ℕ
