-- The instruction table decodes the words of statements and blocks to what their lines say.
use Rattle.std.specs.Prelude.{◌≡◌, ℕ, ◌+◌, ◌*◌, ◌<◌, List, [], ◌∷◌, length, slice_index, slice_index_or, Some, Ok}
use Rattle.rsp_decode.specs.Table.{Row, inst_of, canonical_of}
use Rattle.rsp_syntax.specs.Statement.{Labels, OperandValue, Statement, nothing, numbers, instruction, statement_of, words_of, fields_of, all_fields}
use Rattle.rsp_syntax.specs.SourceLine.{LineParts, split_line}
use Rattle.rsp_syntax.specs.SourceText.{line_at, address_of_line, all_labels, meaning_of_lines}

-- These words are those of an instruction with these operands: one word, which the table decodes to the instruction with the
-- values of the operands as its fields, and which is the canonical word of that.
pub record Decodes (labels : Labels) (address : ℕ) (row : Row) (operands : List OperandValue) (words : List ℕ) : Type 0 where
  pub fields : List ℕ
  pub word : ℕ
  pub values : all_fields labels address operands ≡ Ok fields
  pub one : words ≡ word ∷ []
  pub meaning : inst_of word ≡ Some (row.inst fields)
  pub canonical : canonical_of word ≡ Some word

-- the words of each accepted statement of an instruction, jalr with one operand among them
abbrev pub StatementsDecode : Type 0
StatementsDecode =
    (labels : Labels) (address : ℕ) (text : List ℕ) (row : Row) (operands : List OperandValue) (words : List ℕ)
    → statement_of text ≡ Ok (instruction row operands) → words_of labels address (instruction row operands) ≡ Ok words
    → Decodes labels address row operands words

-- word i of a statement at an address: the number of operand i of .word, or the one word of an instruction
abbrev pub IsWord : Labels → ℕ → Statement → ℕ → ℕ → Type 0
IsWord labels address nothing i word = ⊥
IsWord labels address (numbers rs) i word = (i < length rs) × ((d : OperandValue) → fields_of labels address (slice_index_or rs i d) ≡ Ok (word ∷ []))
IsWord labels address (instruction row operands) i word = (i ≡ 0) × Decodes labels address row operands (word ∷ [])

-- Word j of a block, whose first word is at the origin, is word i of its line k, with these labels.
pub record IsWordOfLine (labels : Labels) (origin : ℕ) (ls : List (List ℕ)) (j word : ℕ) : Type 0 where
  pub k : ℕ
  pub i : ℕ
  pub inside : k < length ls
  pub address : origin + 4 * j ≡ address_of_line origin ls k + 4 * i
  pub parts : LineParts
  pub is_line : split_line (line_at ls k) ≡ Some parts
  pub statement : Statement
  pub says : statement_of parts.body ≡ Ok statement
  pub meaning : IsWord labels (address_of_line origin ls k) statement i word

-- Each word of a block is a word of one of its lines, with the labels of all lines. The last line ends at the address at which
-- the last word ends, so no word of a line is left out.
pub record BlockDecodes (origin : ℕ) (ls : List (List ℕ)) (words : List ℕ) : Type 0 where
  pub each : (j : ℕ) → j < length words → IsWordOfLine (all_labels origin ls) origin ls j (slice_index words j)
  pub no_more : origin + 4 * length words ≡ address_of_line origin ls (length ls)

-- the words of each accepted block
abbrev pub BlocksDecode : Type 0
BlocksDecode = (ls : List (List ℕ)) (origin : ℕ) (words : List ℕ) → meaning_of_lines ls origin ≡ Ok words → BlockDecodes origin ls words
