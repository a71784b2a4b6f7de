-- One piece of a script.
use Rattle.std.specs.Prelude.{◌≡◌, ℕ, List, ◌++◌, Option}
use Rattle.std.specs.Io.KnownBytes.{Appends}
use Rattle.rsp_script_io.specs.Lines.{ended_after, open_after, kept}
use Rattle.rsp_script_io.specs.Replies.{Answer, OfFirst, replies, final}

-- each line that ends in a piece was answered; the first of them began with `line`, and `after` is kept of what no newline ended
pub record PieceAnswered {S : Type 0} (answer_to : List ℕ → S → Answer S) (old new : Option (List ℕ)) (line after : List ℕ) (s t : S) (piece : List ℕ) : Type 0 where
  pub written : Appends old new (replies answer_to (ended_after line piece) s)
  pub session : t ≡ final answer_to (ended_after line piece) s
  pub last : kept after ≡ kept (open_after line piece)

-- There was no memory to answer a line of a piece, the first line of which began with `line`: the lines that ended before it, in a front
-- of the piece, were answered in full, nothing else was written, and there was none for the first line that ends after it.
pub record NoMemoryIn {S : Type 0} (answer_to : List ℕ → S → Answer S) (lacks_memory : List ℕ → S → Type 0) (old new : Option (List ℕ)) (line : List ℕ) (s : S) (piece : List ℕ) : Type 0 where
  pub front : List ℕ
  pub back : List ℕ
  pub whole : front ++ back ≡ piece
  pub written : Appends old new (replies answer_to (ended_after line front) s)
  pub lacks : OfFirst lacks_memory (ended_after (open_after line front) back) (final answer_to (ended_after line front) s)
