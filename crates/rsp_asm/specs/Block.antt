-- An open block of source text: the lines between `asm` and `end` of a script.
use Rattle.std.specs.Prelude.{ℕ, List, [], ◌∷◌, ◌++◌, ◌≡◌, Result, true}
use Rattle.std.specs.List.{list_all}
use Rattle.std.specs.Str.Lines.{lines}
use Rattle.rsp_syntax.specs.Chars.{is_line_byte}
use Rattle.rsp_syntax.specs.SourceLine.{text_of_lines}
use Rattle.rsp_syntax.specs.declared.fault.AsmFault.{AsmFault}
use Rattle.rsp_syntax.specs.SourceText.{meaning_of_lines}

-- the address of its first word, and its lines
pub record OpenBlock : Type 0 where
  pub origin : ℕ
  pub lines : List (List ℕ)

-- a block without lines
abbrev pub empty_block : ℕ → OpenBlock
empty_block origin = record { origin = origin; lines = [] }

-- a block with one more line at its end
abbrev pub with_line : List ℕ → OpenBlock → OpenBlock
with_line line b = record b { lines = b.lines ++ line ∷ [] }

-- what its lines mean: their words, or a fault
unfoldable pub meaning_of_block : OpenBlock → Result (List ℕ) AsmFault
meaning_of_block b = meaning_of_lines b.lines b.origin

-- a text as a block keeps it: lines of tabs and printable bytes, with LF after each
pub record IsText (text : List ℕ) : Type 0 where
  pub whole : text ≡ text_of_lines (lines text)
  pub plain : list_all (list_all is_line_byte) (lines text) ≡ true
