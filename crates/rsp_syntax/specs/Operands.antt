-- The kinds of operands: what the text of each means, and beside it how its fields are disassembled. The table is at the end.
use Rattle.std.specs.Prelude.{ℕ, zero, suc, ◌+◌, ◌-◌, ◌*◌, ◌/◌, ◌%◌, ◌==◌, nat_lt, nat_le, if◌then◌else◌, List, [], ◌∷◌, ◌++◌, length, take, slice_index, Option, Some, None, option_map, option_and_then, codes, ℤ, pos, negsuc}
use Rattle.std.specs.Char.{digit_char}
use Rattle.std.specs.Fmt.{signed_decimal}
use Rattle.rsp_decode.specs.Table.{Operand, ByteElements, all_bytes, half_bytes, scalar, shift_amount, signed, unsigned, jump_target, branch_target, scalar_memory, vector_memory, sp_register, control_register, vector, vector_byte, vector_element, vector_lane}
use Rattle.rsp_syntax.specs.declared.line_bytes.Boundary.TheVariants.{Parenthesis, Bracket}
use Rattle.rsp_syntax.specs.declared.operand_range.OperandRange.{OperandRange}
use Rattle.rsp_syntax.specs.declared.operand_range.OperandRange.TheVariants.{Half, Amount, Jump, Branch, Scaled}
use Rattle.rsp_syntax.specs.Cuts.{cut}
use Rattle.rsp_syntax.specs.Numbers.{Expression, expression_of}
use Rattle.rsp_syntax.specs.Names.{scalar_named, vector_named, sp_named, control_named, element_named, small_number}

-- ---- what an operand means

-- What an operand means: an expression with the range that its value must be in, if there is one, and then the numbers of
-- registers and elements.
pub record OperandValue : Type 0 where
  pub value : Option (OperandRange × Expression)
  pub registers : List ℕ

abbrev pub one_register : ℕ → OperandValue
one_register n = record { value = None; registers = n ∷ [] }

abbrev pub pair : ℕ → ℕ → OperandValue
pair n e = record { value = None; registers = n ∷ e ∷ [] }

abbrev pub ranged_value : OperandRange → List ℕ → Expression → OperandValue
ranged_value range registers e = record { value = Some (range, e); registers = registers }

-- a scalar register, by the text after an opening parenthesis; it ends with the closing one
abbrev pub base_of : List ℕ → Option ℕ
base_of bs = if slice_index bs (length bs - 1) == 41 then scalar_named (take (length bs - 1) bs) else None

abbrev pub zero_expression : Expression
zero_expression = record { label = None; offset = pos 0 }

abbrev pub offset_of : List ℕ → Option Expression
offset_of bs = if length bs == 0 then Some zero_expression else expression_of bs

abbrev pub memory : OperandRange → Option Expression → Option ℕ → Option OperandValue
memory range e base = option_and_then (λ x. option_map (λ b. ranged_value range (b ∷ []) x) base) e

-- what is found for the text before a closing bracket, with which it ends
abbrev pub bracketed : (List ℕ → Option ℕ) → List ℕ → Option ℕ
bracketed look bs = if slice_index bs (length bs - 1) == 93 then look (take (length bs - 1) bs) else None

-- the first byte of a half of a vector register: 0 or 8
abbrev pub half_start : ℕ → Option ℕ
half_start e = if e % 8 == 0 then Some e else None

-- a byte of a vector register, one of those that the instruction takes
abbrev pub byte_named : ByteElements → List ℕ → Option ℕ
byte_named all_bytes bs = small_number 16 bs
byte_named half_bytes bs = option_and_then half_start (small_number 16 bs)

abbrev pub lane_named : List ℕ → Option ℕ
lane_named bs = small_number 8 bs

abbrev pub with_element : Option ℕ → Option ℕ → Option OperandValue
with_element v e = option_and_then (λ n. option_map (pair n) e) v

-- a vector register and what is between brackets, or the default if there are none
abbrev pub bracket_of : (List ℕ → Option ℕ) → Option ℕ → Option (List ℕ × List ℕ) → List ℕ → Option OperandValue
bracket_of look default None bs = with_element (vector_named bs) default
bracket_of look default (Some p) bs = with_element (vector_named p.0) (bracketed look p.1)

abbrev pub memory_operand : OperandRange → Option (List ℕ × List ℕ) → Option OperandValue
memory_operand range None = None
memory_operand range (Some p) = memory range (offset_of p.0) (base_of p.1)

-- ---- how numbers are written

-- the lowest k hexadecimal digits of a number, the highest first, in lower case
abbrev pub hex : ℕ → ℕ → List ℕ
hex zero n = []
hex (suc k) n = hex k (n / 16) ++ digit_char (n % 16) ∷ []

-- a number below 100 in decimal, without a leading zero
abbrev pub small : ℕ → List ℕ
small n = if nat_lt n 10 then (48 + n) ∷ [] else (48 + n / 10) ∷ (48 + n % 10) ∷ []

-- 16 bits as a signed number
abbrev pub signed_half : ℕ → ℤ
signed_half n = if nat_lt n 32768 then pos n else negsuc (65535 - n)

-- 7 bits as a signed number, times the scale
abbrev pub signed_scaled : ℕ → ℕ → ℤ
signed_scaled scale v = if nat_lt v 64 then pos (v * scale) else negsuc ((128 - v) * scale - 1)

-- the address n bytes ahead, and n bytes back, if that is in IMEM
abbrev pub ahead : ℕ → ℕ → Option ℕ
ahead address n = if nat_lt (address + n) 4096 then Some (address + n) else None

abbrev pub back : ℕ → ℕ → Option ℕ
back address n = if nat_le n address then Some (address - n) else None

-- the target of a branch at an address, if that is in IMEM; v counts words from the delay slot, modulo 65536
abbrev pub target : ℕ → ℕ → Option ℕ
target address v = if nat_lt v 32768 then ahead (address + 4) (4 * v) else back (address + 4) (4 * (65536 - v))

-- ---- how names are written

abbrev pub scalar_name : ℕ → List ℕ
scalar_name n = 36 ∷ small n

abbrev pub vector_name : ℕ → List ℕ
vector_name n = 36 ∷ 118 ∷ small n

abbrev pub sp_name : ℕ → List ℕ
sp_name n = 36 ∷ 99 ∷ small n

abbrev pub control_name : ℕ → List ℕ
control_name n = if n == 0 then codes "$vco" else (if n == 1 then codes "$vcc" else codes "$vce")

-- a byte element or a lane
abbrev pub byte_name : ℕ → List ℕ
byte_name e = 91 ∷ (small e ++ 93 ∷ [])

-- the element of a computing instruction; element 0 has no text
abbrev pub element_name : ℕ → List ℕ
element_name e =
    if e == 0 then []
    else (if e == 1 then codes "[v]"
    else (if nat_lt e 4 then 91 ∷ (46 + e) ∷ codes "q]"
    else (if nat_lt e 8 then 91 ∷ (44 + e) ∷ codes "h]"
    else 91 ∷ (40 + e) ∷ 93 ∷ [])))

-- a base register, after an offset
abbrev pub base_name : ℕ → List ℕ
base_name n = 40 ∷ (scalar_name n ++ 41 ∷ [])

-- the target of a branch; a target outside IMEM has no text
abbrev pub target_text : Option ℕ → List ℕ
target_text None = []
target_text (Some t) = codes "0x" ++ hex 3 t

-- ---- the kinds

-- A kind of operand: what a text means, and the disassembly of the operand's fields, for a word at an address.
pub record Kind : Type 0 where
  pub meaning : List ℕ → Option OperandValue
  pub disassembly : ℕ → List ℕ → List ℕ

abbrev pub kind : Operand → Kind
-- $9 or $t1, disassembled as $9
kind (scalar low) = record {
  meaning = λ bs. option_map one_register (scalar_named bs);
  disassembly = λ address vs. scalar_name (slice_index vs 0);
}
-- 31
kind shift_amount = record {
  meaning = λ bs. option_map (ranged_value Amount []) (expression_of bs);
  disassembly = λ address vs. small (slice_index vs 0);
}
-- -2 or x+4, disassembled as -2
kind signed = record {
  meaning = λ bs. option_map (ranged_value Half []) (expression_of bs);
  disassembly = λ address vs. signed_decimal (signed_half (slice_index vs 0));
}
-- 255 or -1, disassembled as 0x00ff and 0xffff
kind unsigned = record {
  meaning = λ bs. option_map (ranged_value Half []) (expression_of bs);
  disassembly = λ address vs. codes "0x" ++ hex 4 (slice_index vs 0);
}
-- loop or 16, disassembled as 0x010
kind jump_target = record {
  meaning = λ bs. option_map (ranged_value Jump []) (expression_of bs);
  disassembly = λ address vs. codes "0x" ++ hex 3 (4 * slice_index vs 0);
}
-- the same; its field is the distance from the delay slot in words
kind branch_target = record {
  meaning = λ bs. option_map (ranged_value Branch []) (expression_of bs);
  disassembly = λ address vs. target_text (target address (slice_index vs 0));
}
-- ($sp) or -4($29), disassembled as 0($29) and -4($29)
kind scalar_memory = record {
  meaning = λ bs. memory_operand Half (cut Parenthesis bs);
  disassembly = λ address vs. signed_decimal (signed_half (slice_index vs 0)) ++ base_name (slice_index vs 1);
}
-- 16($4); its field is the offset in steps of the scale
kind (vector_memory scale) = record {
  meaning = λ bs. memory_operand (Scaled scale) (cut Parenthesis bs);
  disassembly = λ address vs. signed_decimal (signed_scaled scale (slice_index vs 0)) ++ base_name (slice_index vs 1);
}
-- $c4
kind sp_register = record {
  meaning = λ bs. option_map one_register (sp_named bs);
  disassembly = λ address vs. sp_name (slice_index vs 0);
}
-- $vcc
kind control_register = record {
  meaning = λ bs. option_map one_register (control_named bs);
  disassembly = λ address vs. control_name (slice_index vs 0);
}
-- $v3
kind (vector low) = record {
  meaning = λ bs. option_map one_register (vector_named bs);
  disassembly = λ address vs. vector_name (slice_index vs 0);
}
-- $v3[8] or $v3, disassembled as $v3[8] and $v3[0]
kind (vector_byte low elements) = record {
  meaning = λ bs. bracket_of (byte_named elements) (Some 0) (cut Bracket bs) bs;
  disassembly = λ address vs. vector_name (slice_index vs 0) ++ byte_name (slice_index vs 1);
}
-- $v3[2h] or $v3, disassembled so
kind vector_element = record {
  meaning = λ bs. bracket_of element_named (Some 0) (cut Bracket bs) bs;
  disassembly = λ address vs. vector_name (slice_index vs 0) ++ element_name (slice_index vs 1);
}
-- $v3[7]
kind vector_lane = record {
  meaning = λ bs. bracket_of lane_named None (cut Bracket bs) bs;
  disassembly = λ address vs. vector_name (slice_index vs 0) ++ byte_name (slice_index vs 1);
}

-- what the text of an operand means, by its kind
abbrev pub read : Operand → List ℕ → Option OperandValue
read k bs = (kind k).meaning bs

-- the disassembly of an operand with these fields, for a word at an address
abbrev pub operand_disassembly : ℕ → Operand → List ℕ → List ℕ
operand_disassembly address k vs = (kind k).disassembly address vs
