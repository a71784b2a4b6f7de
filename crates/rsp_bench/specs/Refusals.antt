-- Refused commands and lines.
use Rattle.std.specs.Prelude.{◌≡◌, ℕ, List, take, Bool, true, None, Result, Ok, Err, codes}
use Rattle.std.specs.Str.{bytes_eq}
use Rattle.rsp_commands.specs.declared.command.Command.{Command}
use Rattle.rsp_commands.specs.declared.command.Command.TheVariants.{End}
use Rattle.rsp_commands.specs.declared.fault.LineFault.{LineFault}
use Rattle.rsp_commands.specs.Line.{command_of}
use Rattle.rsp_bench.specs.Session.{SessionState, answer_of, line_answer, in_block}

-- a reply that refuses
abbrev pub is_refusal : List ℕ → Bool
is_refusal reply = bytes_eq (take 6 reply) (codes "fault ")

-- the session after a refused command: as it was, except that a refused `end` leaves no block open
abbrev pub after_refusal : Command → SessionState → SessionState
after_refusal End s = record s { block = None }
after_refusal _ s = s

-- the session after a refused line, which is a refused command or none at all
abbrev pub after_refused_line : Result Command LineFault → SessionState → SessionState
after_refused_line (Ok command) s = after_refusal command s
after_refused_line (Err fault) s = s

-- a refused command changes nothing
abbrev pub RefusedCommandsChangeNothing : Type 0
RefusedCommandsChangeNothing = (command : Command) (s : SessionState)
    → is_refusal (answer_of command s).reply ≡ true → (answer_of command s).next ≡ after_refusal command s

-- a refused line changes nothing
abbrev pub RefusedLinesChangeNothing : Type 0
RefusedLinesChangeNothing = (line : List ℕ) (s : SessionState)
    → is_refusal (line_answer line s).reply ≡ true → (line_answer line s).next ≡ after_refused_line (command_of line (in_block s)) s
