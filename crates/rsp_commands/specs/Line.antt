-- What a line of a script says.
use Rattle.std.specs.Prelude.{ℕ, List, Bool, Result, Ok, Err, if◌then◌else◌, nat_le, ◌==◌, codes, length}
use Rattle.std.specs.List.{list_all, before_first}
use Rattle.rsp_syntax.specs.Chars.{is_line_byte, is_line}
use Rattle.rsp_commands.specs.LineWords.{words_in, is_end}
use Rattle.rsp_commands.specs.Command.{command_of_words}
use Rattle.rsp_commands.specs.declared.command.Command.{Command}
use Rattle.rsp_commands.specs.declared.command.Command.TheVariants.{BlockLine, End}
use Rattle.rsp_commands.specs.declared.fault.LineFault.{LineFault}
use Rattle.rsp_commands.specs.declared.fault.LineFault.TheVariants.{LineTooLong, NotText}

-- `#` begins a comment
abbrev pub is_hash : ℕ → Bool
is_hash b = b == 35

-- what a line in a block says: `:` takes the place of a line that is too long or no text
unfoldable pub block_command : List ℕ → Command
block_command line =
    if is_line line then (if is_end (words_in line) then End else BlockLine line)
    else BlockLine (codes ":")

-- what a line outside a block says
abbrev pub plain_command : List ℕ → Result Command LineFault
plain_command line =
    if nat_le (length line) 256 then
    (if list_all is_line_byte line then command_of_words (words_in (before_first is_hash line)) else Err NotText)
    else Err LineTooLong

-- what a line of a script says, in a block or outside
unfoldable pub command_of : List ℕ → Bool → Result Command LineFault
command_of line in_block = if in_block then Ok (block_command line) else plain_command line
