-- The words of a line.
use Rattle.std.specs.Prelude.{ℕ, List, [], ◌∷◌, Bool, false, filter, length, nat_lt, codes}
use Rattle.std.specs.List.{slice_split}
use Rattle.std.specs.Str.{bytes_eq}
use Rattle.rsp_syntax.specs.Chars.{is_blank}

-- a part that isn't empty
abbrev pub is_word : List ℕ → Bool
is_word part = nat_lt 0 (length part)

-- the words of a text: its parts between spaces and tabs that aren't empty
abbrev pub words_in : List ℕ → List (List ℕ)
words_in text = filter is_word (slice_split is_blank text)

-- the one word `end`
abbrev pub is_end : List (List ℕ) → Bool
is_end [] = false
is_end (word ∷ []) = bytes_eq word (codes "end")
is_end (word ∷ other ∷ more) = false
