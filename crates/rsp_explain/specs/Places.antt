-- Which line or block of a script a reply answers.
use Rattle.std.specs.Prelude.{◌≡◌, ℕ, ◌+◌, ◌-◌, ◌*◌, ◌^◌, ◌==◌, min, List, [], ◌∷◌, ◌++◌, Bool, true, false, Option, Some, None, option_map, is_some, Result, Ok, length, take, drop, slice_range, slice_index_or, if◌then◌else◌, decimal}
use Rattle.std.specs.Char.{is_ascii_digit}
use Rattle.std.specs.List.{after_first, fold}
use Rattle.std.specs.Str.Lines.{lines}
use Rattle.rsp_commands.specs.Line.{command_of}
use Rattle.rsp_commands.specs.declared.command.Command.{Command}
use Rattle.rsp_commands.specs.declared.command.Command.TheVariants.{Nothing, Asm, BlockLine, End}
use Rattle.rsp_commands.specs.declared.fault.LineFault.{LineFault}
use Rattle.rsp_explain.specs.declared.places.OpenBlock.{OpenBlock}
use Rattle.rsp_explain.specs.declared.places.Place.{Place}
use Rattle.rsp_explain.specs.declared.places.Place.TheVariants.{Line, Block}

-- what a reply answers: a line, by its number and its bytes; or a block, by the number of the line with its `asm`, its origin, its
-- text, and whether `end` closes it
pub data Answered : Type 0 where
  line : ℕ → List ℕ → Answered
  block : ℕ → ℕ → List ℕ → Bool → Answered

abbrev pub answered_at : Place → Answered
answered_at (Line number text) = line number text.now
answered_at (Block number origin text is_closed) = block number origin text.now is_closed

-- how much of a script was gone through: so many bytes, which are so many lines, and the block that is open then
pub record Progress : Type 0 where
  pub bytes : ℕ
  pub lines : ℕ
  pub block : Option OpenBlock

-- the start of a script
abbrev pub at_start : Progress
at_start = record { bytes = 0; lines = 0; block = None }

-- what a line says, before which so much was gone through
abbrev pub command_at : List ℕ → Progress → Result Command LineFault
command_at text p = command_of text (is_some p.block)

-- the open block after a line: `asm` opens this one at an origin, and `end` closes the open one
abbrev pub block_after : Result Command LineFault → (ℕ → OpenBlock) → Option OpenBlock → Option OpenBlock
block_after (Ok (Asm address)) opened b = Some (opened address)
block_after (Ok End) opened b = None
block_after _ opened b = b

-- how many bytes there are up to the end of the line that begins after so many, with its newline
abbrev pub line_end : List ℕ → ℕ → ℕ
line_end script bytes = length script - length (after_first (λ b. b == 10) (drop bytes script))

-- what was gone through after one line more
abbrev pub past_line : List ℕ → List ℕ → Progress → Progress
past_line script text p =
    let bytes = line_end script p.bytes in
    let number = p.lines + 1 in
    let opened : ℕ → OpenBlock = λ origin. record { number = number; origin = origin; start = bytes } in
    record { bytes = bytes; lines = number; block = block_after (command_at text p) opened p.block }

-- an open block whose text ends after so many bytes of the script
abbrev pub block_to : List ℕ → ℕ → Bool → OpenBlock → Answered
block_to script bytes is_closed b = block b.number b.origin (slice_range script b.start bytes) is_closed

-- what the reply to a line answers: that to `end` its block. A line without a command, a line of a block and `asm` have no reply.
abbrev pub answered_by : List ℕ → List ℕ → Result Command LineFault → Progress → Option Answered
answered_by script text (Ok Nothing) p = None
answered_by script text (Ok (BlockLine source)) p = None
answered_by script text (Ok (Asm address)) p = None
answered_by script text (Ok End) p = option_map (block_to script p.bytes true) p.block
answered_by script text _ p = Some (line (p.lines + 1) text)

-- what a reply answers, if there is one, and what was gone through then
pub record Next : Type 0 where
  pub place : Option Answered
  pub progress : Progress

abbrev pub found_or : Option Answered → Progress → Next → Next
found_or (Some place) p next = record { place = Some place; progress = p }
found_or None p next = next

-- what the next reply answers, if these are the lines that weren't gone through: the first of them that has one, or the block that is
-- open at the end
abbrev pub next_of : List ℕ → List (List ℕ) → Progress → Next
next_of script [] p = record { place = option_map (block_to script (length script) false) p.block; progress = record p { block = None } }
next_of script (text ∷ more) p =
    found_or (answered_by script text (command_at text p) p) (past_line script text p) (next_of script more (past_line script text p))

-- what the next reply answers of a script of which so much was gone through
abbrev pub next_place : List ℕ → Progress → Next
next_place script p = next_of script (lines (drop p.bytes script)) p

-- ---- the line that a reply names

-- a reply without the newline at its end
abbrev pub without_newline : List ℕ → List ℕ
without_newline reply = if slice_index_or reply (length reply - 1) 0 == 10 then take (length reply - 1) reply else reply

-- the number of the digits at the end of a text, if this byte follows it; at most 2 ^ 64 - 1
abbrev pub number_after : ℕ → ℕ → ℕ
number_after n b = if is_ascii_digit b then min (10 * n + (b - 48)) (2 ^ 64 - 1) else 0

-- the number at the end of a reply; 0 if no digit is there
abbrev pub last_number : List ℕ → ℕ
last_number reply = fold number_after 0 (without_newline reply)

-- a reply ends with a space and this number
abbrev pub EndsWithNumber : ℕ → List ℕ → Type 0
EndsWithNumber n reply = (front : List ℕ) × (reply ≡ front ++ 32 ∷ decimal n ++ 10 ∷ [])

-- the line of the script in which the line of this number of a block is; a line that is answered is itself that line
abbrev pub line_in : Answered → ℕ → ℕ
line_in (line number text) n = number
line_in (block number origin text is_closed) n = min (number + n) (2 ^ 64 - 1)
