-- Scaffolding: the proof that lines of more than 256 bytes get the same answer, which reading a script in pieces requires.
use Rattle.std.proofs.Common.{◌≡◌, ℕ, ◌<◌, List, length, Bool, true, false, ap, subst, sym, ◌∙◌}
use Rattle.rsp_script_io.specs.Replies.{LongLinesAlike, LongLinesLackAlike}
use Rattle.rsp_commands.specs.Line.{command_of}
use Rattle.rsp_commands.proofs.LongLines.{too_long, too_long_in_block}
use Rattle.rsp_bench.specs.Session.{line_answer, parsed_answer, lacks_memory, ParsedLacksMemory, in_block}

same_command : (line other : List ℕ) (open_block : Bool) → 256 < length line → 256 < length other → command_of line open_block ≡ command_of other open_block
same_command line other false h g = too_long line h ∙ sym (too_long other g)
same_command line other true h g = too_long_in_block line h ∙ sym (too_long_in_block other g)

pub long_alike : LongLinesAlike line_answer
unfolding line_answer
long_alike line other s h g = ap (λ r. parsed_answer r s) (same_command line other (in_block s) h g)

pub long_lack_alike : LongLinesLackAlike lacks_memory
unfolding lacks_memory
long_lack_alike line other s h g p = (p.0, subst (λ r. ParsedLacksMemory r s) (same_command line other (in_block s) h g) p.1)
