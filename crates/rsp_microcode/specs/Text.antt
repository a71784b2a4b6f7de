-- Source texts.
use Rattle.std.specs.Prelude.{ℕ, ◌≡◌, ◌++◌, List, [], ◌∷◌, Ok}
use Rattle.rsp_syntax.specs.SourceText.{meaning_of_text}

-- a line of a text
abbrev pub line : List ℕ → List ℕ
line text = text ++ 10 ∷ []

-- a text, assembled at 0, means these words
abbrev pub Assembles : List ℕ → List ℕ → Type 0
Assembles text words = meaning_of_text text 0 ≡ Ok words
