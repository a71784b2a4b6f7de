-- What is said of a reply to a script, which is a fault.
use Rattle.std.specs.Prelude.{◌≡◌, ℕ, ◌+◌, ◌-◌, ◌^◌, ◌==◌, min, List, [], ◌∷◌, ◌++◌, Bool, true, false, MatchBool, MatchOption, map, length, codes, if◌then◌else◌}
use Rattle.std.specs.Char.{is_ascii}
use Rattle.std.specs.List.{starts_with}
use Rattle.std.specs.Str.Lines.{lines}
use Rattle.rsp_syntax.specs.declared.fault.AsmFault.{AsmFault}
use Rattle.rsp_syntax.specs.declared.fault.AsmFaultKind.TheVariants.{BadLine}
use Rattle.rsp_explain.specs.declared.head.Head.{Head}
use Rattle.rsp_explain.specs.Heads.{head_text}
use Rattle.rsp_explain.specs.Places.{Answered, line, block, at_start, next_place, without_newline}
use Rattle.rsp_explain.specs.Said.{AreExplained, text_faults}

-- in place of each byte that isn't ASCII one that no line may have
abbrev pub readable_byte : ℕ → ℕ
readable_byte b = if is_ascii b then b else 1

abbrev pub readable : List ℕ → List ℕ
readable text = map readable_byte text

-- the line of this number, the text of its reply, and what is wrong there
abbrev pub line_said : Head → ℕ → List ℕ → List ℕ → List ℕ
line_said head number text reason = (head_text head number ++ codes ": " ++ text) ++ (reason ++ 10 ∷ [])

abbrev pub reply_said : Head → ℕ → List ℕ → List ℕ → List ℕ
reply_said head number reply reason = line_said head number (readable (without_newline reply)) reason

-- a block that no `end` closes lacks the line after the last one
abbrev pub open_fault : List ℕ → AsmFault
open_fault text = record { line = length (lines text) + 1; kind = BadLine }

-- the faults of a block's text
abbrev pub block_faults : ℕ → List ℕ → Bool → List AsmFault
block_faults origin text true = text_faults (readable text) (min origin 4092)
block_faults origin text false = open_fault (readable text) ∷ []

-- what is said of a fault in a line is the reply, for some reason; of one in a block, all faults of its text
abbrev pub IsFaultExplained : Head → Answered → List ℕ → List ℕ → Type 0
IsFaultExplained head (line number text) reply said = (reason : List ℕ) × (said ≡ reply_said head number reply reason)
IsFaultExplained head (block number origin text is_closed) reply said = AreExplained head number (block_faults origin text is_closed) said

-- what is said of a reply: nothing if it is no fault
abbrev pub IsReplyExplained : Head → Answered → List ℕ → List ℕ → Type 0
IsReplyExplained head answered reply said = MatchBool (starts_with (λ a b. a == b) reply (codes "fault ")) (IsFaultExplained head answered reply said) (said ≡ [])

-- what a reply answers, in a script that has so many lines more before it
abbrev pub answered_after : ℕ → Answered → Answered
answered_after before (line number text) = line (min (before + number) (2 ^ 64 - 1)) text
answered_after before (block number origin text is_closed) = block (min (before + number) (2 ^ 64 - 1)) origin text is_closed

-- what is said of the reply to lines of a script that has so many lines before them: nothing if none of them has a reply
abbrev pub AreLinesExplained : Head → ℕ → List ℕ → List ℕ → List ℕ → Type 0
AreLinesExplained head before lines reply said =
    MatchOption (next_place lines at_start).place (said ≡ []) (λ answered. IsReplyExplained head (answered_after before answered) reply said)
