-- The disassembly of words with labels. An address of the words that a jump or a branch of them leads to has a label: its name is
-- on a line before the word, and the operand shows the name. All else is as in the disassembly without labels.
use Rattle.std.specs.Prelude.{ℕ, ◌+◌, ◌*◌, ◌==◌, nat_lt, nat_le, Bool, false, ◌&&◌, ◌||◌, if◌then◌else◌, List, [], ◌∷◌, ◌++◌, length, map, Option, Some, None, codes}
use Rattle.std.specs.List.{list_all}
use Rattle.rsp_decode.specs.Table.{Operand, jump_target, branch_target, Row, row_of, value_at, whole, fields, word_from}
use Rattle.rsp_syntax.specs.Disassembly.{hex, target, operand_text, operands_after_name, has_text, word_directive}

-- ---- where words lead

-- the address that an operand of a word leads to: the target of a jump, or of a branch if that is in IMEM
abbrev pub operand_target : ℕ → ℕ → Operand → Option ℕ
operand_target w address jump_target = Some (4 * value_at w (whole 0 10))
operand_target w address branch_target = target address (value_at w (whole 0 16))
operand_target w address _ = None

-- the address that the first operand with a target leads to
abbrev pub or_else : Option ℕ → Option ℕ → Option ℕ
or_else None later = later
or_else (Some t) later = Some t

abbrev pub operands_target : ℕ → ℕ → List Operand → Option ℕ
operands_target w address [] = None
operands_target w address (k ∷ ks) = or_else (operand_target w address k) (operands_target w address ks)

-- the address that a word leads to, if it is disassembled as an instruction
abbrev pub row_target : ℕ → ℕ → Option Row → Option ℕ
row_target w address None = None
row_target w address (Some r) = if word_from r (fields r w) == w then operands_target w address r.operands else None

unfoldable pub word_target : ℕ → ℕ → Option ℕ
word_target w address = row_target w address (row_of w)

abbrev pub is_at : Option ℕ → ℕ → Bool
is_at None t = false
is_at (Some u) t = u == t

-- one of the words from an address on leads to t
abbrev pub lead_to : ℕ → List ℕ → ℕ → Bool
lead_to address [] t = false
lead_to address (w ∷ ws) t = is_at (word_target w address) t || lead_to (address + 4) ws t

-- t, a multiple of 4, has a label: it is the address of one of the words from the origin on, and one of them leads to it
unfoldable pub has_label : ℕ → List ℕ → ℕ → Bool
has_label origin ws t = (nat_le origin t && nat_lt t (origin + 4 * length ws)) && lead_to origin ws t

-- ---- texts

-- the name of an address's label: L and three hexadecimal digits. No disassembly has such a word.
abbrev pub label_name : ℕ → List ℕ
label_name address = 76 ∷ hex 3 address

-- the label's name if the target has one, else the operand's text
abbrev pub name_or_text : (ℕ → Bool) → Option ℕ → List ℕ → List ℕ
name_or_text labelled None text = text
name_or_text labelled (Some t) text = if labelled t then label_name t else text

abbrev pub labelled_operand : (ℕ → Bool) → ℕ → ℕ → Operand → List ℕ
labelled_operand labelled w address k = name_or_text labelled (operand_target w address k) (operand_text w address k)

abbrev pub labelled_row_text : (ℕ → Bool) → ℕ → ℕ → Row → List ℕ
labelled_row_text labelled w address r = r.name ++ operands_after_name (map (labelled_operand labelled w address) r.operands)

abbrev pub labelled_row : (ℕ → Bool) → ℕ → ℕ → Option Row → List ℕ
labelled_row labelled w address None = word_directive w
labelled_row labelled w address (Some r) =
    if (word_from r (fields r w) == w) && list_all (has_text w address) r.operands then labelled_row_text labelled w address r else word_directive w

-- the disassembly of a word at an address, if these addresses have labels
unfoldable pub labelled_disassembly : (ℕ → Bool) → ℕ → ℕ → List ℕ
labelled_disassembly labelled w address = if w == 0 then codes "nop" else labelled_row labelled w address (row_of w)

-- the line of an address's label, if it has one
abbrev pub label_lines : (ℕ → Bool) → ℕ → List (List ℕ)
label_lines labelled address = if labelled address then (label_name address ++ 58 ∷ []) ∷ [] else []

-- the disassembly of words from an address on, a line each, with the lines of the labels
abbrev pub labelled_lines : (ℕ → Bool) → ℕ → List ℕ → List (List ℕ)
labelled_lines labelled address [] = []
labelled_lines labelled address (w ∷ ws) = label_lines labelled address ++ labelled_disassembly labelled w address ∷ labelled_lines labelled (address + 4) ws

-- the disassembly of words from an origin on, with their labels
abbrev pub labelled_listing : ℕ → List ℕ → List (List ℕ)
labelled_listing origin ws = labelled_lines (has_label origin ws) origin ws
