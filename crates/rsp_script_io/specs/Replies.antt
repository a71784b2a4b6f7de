-- What is written for a script.
use Rattle.std.specs.Prelude.{◌≡◌, ℕ, ◌<◌, List, [], ◌∷◌, ◌++◌, length}
use Rattle.std.specs.Str.Lines.{lines}

-- the answer to a line: its reply, and what answers the next line
pub record Answer (S : Type 0) : Type 0 where
  pub reply : List ℕ
  pub next : S

-- lines of more than 256 bytes are answered alike, whatever they say
abbrev pub LongLinesAlike : {S : Type 0} → (List ℕ → S → Answer S) → Type 0
LongLinesAlike {S} answer_to = (line other : List ℕ) (s : S) → 256 < length line → 256 < length other → answer_to line s ≡ answer_to other s

-- what is known of a line of more than 256 bytes for which there is no memory is known of each
abbrev pub LongLinesLackAlike : {S : Type 0} → (List ℕ → S → Type 0) → Type 0
LongLinesLackAlike {S} lacks_memory = (line other : List ℕ) (s : S) → 256 < length line → 256 < length other → lacks_memory line s → lacks_memory other s

-- there is a first line, and this is known of it
abbrev pub OfFirst : {S : Type 0} → (List ℕ → S → Type 0) → List (List ℕ) → S → Type 0
OfFirst p [] s = ⊥
OfFirst p (l ∷ ls) s = p l s

-- the replies to lines, one after another
abbrev pub replies : {S : Type 0} → (List ℕ → S → Answer S) → List (List ℕ) → S → List ℕ
replies answer_to [] s = []
replies answer_to (l ∷ ls) s = (answer_to l s).reply ++ replies answer_to ls (answer_to l s).next

-- what answers the line after these lines
abbrev pub final : {S : Type 0} → (List ℕ → S → Answer S) → List (List ℕ) → S → S
final answer_to [] s = s
final answer_to (l ∷ ls) s = final answer_to ls (answer_to l s).next

-- all that is written for a script: the replies to its lines, and what is written at its end
abbrev pub written_of : {S : Type 0} → (List ℕ → S → Answer S) → (S → List ℕ) → List ℕ → S → List ℕ
written_of answer_to end_reply script s = replies answer_to (lines script) s ++ end_reply (final answer_to (lines script) s)
