-- The canonical disassembly of a word at an address. Operands has the disassembly of each kind of operand, beside what its text
-- means.
use Rattle.std.specs.Prelude.{ℕ, ◌+◌, ◌==◌, Bool, true, ◌&&◌, if◌then◌else◌, List, [], ◌∷◌, ◌++◌, map, Option, Some, None, is_some, codes}
use Rattle.std.specs.List.{list_all}
use Rattle.rsp_decode.specs.Table.{Operand, branch_target, Row, row_of, bit_fields, value_at, whole, fields, word_from}
pub use Rattle.rsp_syntax.specs.Operands.{hex, small, signed_half, signed_scaled, ahead, back, target, scalar_name, vector_name, sp_name, control_name, byte_name, element_name, base_name, target_text, operand_disassembly}

-- ---- operands

-- the fields of a word that an operand shows
abbrev pub operand_fields : Operand → ℕ → List ℕ
operand_fields k w = map (value_at w) (bit_fields k)

abbrev pub operand_text : ℕ → ℕ → Operand → List ℕ
operand_text w address k = operand_disassembly address k (operand_fields k w)

-- an operand has a text: it is no branch, or its target is in IMEM
abbrev pub has_text : ℕ → ℕ → Operand → Bool
has_text w address branch_target = is_some (target address (value_at w (whole 0 16)))
has_text w address _ = true

-- ---- words

-- each text after a comma and a space
abbrev pub more_operands : List (List ℕ) → List ℕ
more_operands [] = []
more_operands (t ∷ ts) = 44 ∷ 32 ∷ (t ++ more_operands ts)

-- the operands after a name
abbrev pub operands_after_name : List (List ℕ) → List ℕ
operands_after_name [] = []
operands_after_name (t ∷ ts) = 32 ∷ (t ++ more_operands ts)

-- a word as its instruction, and as a number
abbrev pub row_text : ℕ → ℕ → Row → List ℕ
row_text w address r = r.name ++ operands_after_name (map (operand_text w address) r.operands)

abbrev pub word_directive : ℕ → List ℕ
word_directive w = codes ".word 0x" ++ hex 8 w

-- the instruction, if the word is its canonical one and the target of a branch is in IMEM; else the word as a number
abbrev pub row_disassembly : ℕ → ℕ → Option Row → List ℕ
row_disassembly w address None = word_directive w
row_disassembly w address (Some r) =
    if (word_from r (fields r w) == w) && list_all (has_text w address) r.operands then row_text w address r else word_directive w

-- the canonical disassembly of a word at an address
unfoldable pub disassembly : ℕ → ℕ → List ℕ
disassembly w address = if w == 0 then codes "nop" else row_disassembly w address (row_of w)

-- the disassembly of words from an address on, a line each
abbrev pub listing : ℕ → List ℕ → List (List ℕ)
listing address [] = []
listing address (w ∷ ws) = disassembly w address ∷ listing (address + 4) ws
