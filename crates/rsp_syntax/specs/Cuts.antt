-- Cutting a text at its first separator.
use Rattle.std.specs.Prelude.{ℕ, ◌==◌, Bool, ◌||◌, List, Option, Some, None, if◌then◌else◌}
use Rattle.std.specs.List.{list_any, before_first, after_first}
use Rattle.rsp_syntax.specs.Chars.{is_blank}
use Rattle.rsp_syntax.specs.declared.line_bytes.Boundary.{Boundary}
use Rattle.rsp_syntax.specs.declared.line_bytes.Boundary.TheVariants.{Blank, Colon, Comma, Comment, Bracket, Newline, Parenthesis, Plus, Minus}

-- the bytes of each kind of separator
abbrev pub is_boundary : Boundary → ℕ → Bool
is_boundary Blank c = is_blank c
is_boundary Colon c = c == 58
is_boundary Newline c = c == 10
is_boundary Comma c = c == 44
is_boundary Comment c = c == 35 || c == 59
is_boundary Bracket c = c == 91
is_boundary Parenthesis c = c == 40
is_boundary Plus c = c == 43
is_boundary Minus c = c == 45

-- the part before the first separator of a kind and the part after it, or None if the text has none
abbrev pub cut : Boundary → List ℕ → Option (List ℕ × List ℕ)
cut boundary bs = if list_any (is_boundary boundary) bs then Some (before_first (is_boundary boundary) bs, after_first (is_boundary boundary) bs) else None
