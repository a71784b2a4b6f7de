-- The lines of a text that comes in pieces.
use Rattle.std.specs.Prelude.{◌≡◌, ◌+◌, ◌<◌, ◌⊎◌, ℕ, min, List, [], ◌∷◌, ◌++◌, Bool, ◌==◌, take, length, if◌then◌else◌}
use Rattle.std.specs.List.{slice_split, position_or_len}
use Rattle.std.specs.Str.Lines.{strip_carriage_return}

abbrev pub is_newline : ℕ → Bool
is_newline b = b == 10

-- how many bytes of a text come up to its first newline and with it: all of them, if it has none
abbrev pub through_newline : List ℕ → ℕ
through_newline text = min (position_or_len is_newline text + 1) (length text)

-- the parts that a newline ended, each without the one carriage return at its end
abbrev pub ended_of_parts : List (List ℕ) → List (List ℕ)
ended_of_parts [] = []
ended_of_parts (p ∷ []) = []
ended_of_parts (p ∷ q ∷ more) = strip_carriage_return p ∷ ended_of_parts (q ∷ more)

-- the lines of a text that a newline ended
unfoldable pub ended_lines : List ℕ → List (List ℕ)
ended_lines text = ended_of_parts (slice_split is_newline text)

-- the lines that a newline ends in a text, the first of which began with `line`
abbrev pub ended_after : List ℕ → List ℕ → List (List ℕ)
ended_after line [] = []
ended_after line (b ∷ text) = if is_newline b then strip_carriage_return line ∷ ended_after [] text else ended_after (line ++ b ∷ []) text

-- what no newline has ended at the end of a text, the first line of which began with `line`
abbrev pub open_after : List ℕ → List ℕ → List ℕ
open_after line [] = line
open_after line (b ∷ text) = if is_newline b then open_after [] text else open_after (line ++ b ∷ []) text

-- bytes that no newline ended are a line, if there are any
abbrev pub last_line : List ℕ → List (List ℕ)
last_line line = if length line == 0 then [] else line ∷ []

-- what is kept of a line: enough to see that it has more than 256 bytes, even if the last one is a carriage return
unfoldable pub kept : List ℕ → List ℕ
kept line = take 258 line

-- the same line, or two lines of more than 256 bytes
abbrev pub IsSameOrLong : List ℕ → List ℕ → Type 0
IsSameOrLong line other = (line ≡ other) ⊎ ((256 < length line) × (256 < length other))
