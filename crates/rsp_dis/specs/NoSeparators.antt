-- Scaffolding of a law: the bytes of a disassembled operand.
use Rattle.std.specs.Prelude.{ℕ, Bool, not, ◌&&◌, ◌||◌}
use Rattle.rsp_syntax.specs.declared.line_bytes.Boundary.TheVariants.{Blank, Colon, Comma, Comment}
use Rattle.rsp_syntax.specs.Chars.{is_line_byte}
use Rattle.rsp_syntax.specs.Cuts.{is_boundary}

-- a byte of a line that separates nothing: no blank, comma, colon, # or ;
abbrev pub is_no_separator : ℕ → Bool
is_no_separator c = is_line_byte c && not (is_boundary Blank c || (is_boundary Comma c || (is_boundary Colon c || is_boundary Comment c)))
