-- Bytes as numbers in ASCII: blanks, the bytes of names, and those of lines.
use Rattle.std.specs.Prelude.{ℕ, ◌==◌, nat_le, Bool, ◌&&◌, ◌||◌, List, [], ◌∷◌, length, reverse, if◌then◌else◌}
use Rattle.std.specs.List.{list_all}

-- a space or a tab
abbrev pub is_blank : ℕ → Bool
is_blank c = c == 32 || c == 9

abbrev pub is_letter : ℕ → Bool
is_letter c = nat_le 65 c && nat_le c 90 || nat_le 97 c && nat_le c 122

-- a letter or _
abbrev pub is_name_start : ℕ → Bool
is_name_start c = is_letter c || c == 95

-- a letter, a digit or _
abbrev pub is_name_byte : ℕ → Bool
is_name_byte c = is_name_start c || nat_le 48 c && nat_le c 57

-- a tab, or a printable byte, 20 to 7e hexadecimal
abbrev pub is_line_byte : ℕ → Bool
is_line_byte c = c == 9 || nat_le 32 c && nat_le c 126

-- a line, without its line ending: at most 256 such bytes
abbrev pub is_line : List ℕ → Bool
is_line bs = nat_le (length bs) 256 && list_all is_line_byte bs

-- without the blanks at the start
abbrev pub skip_blanks : List ℕ → List ℕ
skip_blanks [] = []
skip_blanks (c ∷ cs) = if is_blank c then skip_blanks cs else c ∷ cs

-- without the blanks at both ends
abbrev pub trim : List ℕ → List ℕ
trim bs = reverse (skip_blanks (reverse (skip_blanks bs)))
