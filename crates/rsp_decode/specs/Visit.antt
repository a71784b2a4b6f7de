-- A visitor after the instruction of a word.
use Rattle.std.specs.Prelude.{Bool, true, false, Option, Some, None}
use Rattle.rsp_decode.specs.declared.inst.Inst.{Inst}

-- whether a word is an instruction
abbrev pub is_instruction : Option Inst → Bool
is_instruction None = false
is_instruction (Some i) = true

-- the visitor after a word, by what it is after an instruction; a reserved word changes nothing
abbrev pub after_visit : {S : Type 0} → (Inst → S → S) → Option Inst → S → S
after_visit after None s = s
after_visit after (Some i) s = after i s
