-- The line of the first fault among the replies of a run.
use Rattle.std.specs.Prelude.{ℕ, List, min, take, Option, Some, None, if◌then◌else◌}
use Rattle.rsp_explain.specs.Places.{Answered, line_in, last_number}
use Rattle.rsp_cli.specs.Faults.{is_fault}
use Rattle.rsp_cli.specs.declared.watch.Text.{Text}
use Rattle.rsp_cli.specs.declared.watch.Text.TheVariants.{Whole, Heard}
use Rattle.rsp_cli.specs.declared.watch.Watch.{Watch}

-- the script, if it is in memory; no contract says what was heard so far
abbrev pub whole_text : Text → Option (List ℕ)
whole_text (Whole script) = Some script.now
whole_text (Heard cell) = None

-- how the reply at work begins
abbrev pub reply_at_work : {E : Type 0} → Watch E → List ℕ
reply_at_work watch = take (min watch.length 64) watch.reply

-- the line of the first fault after a reply that answers this: the one that it was, or that of the reply if it is a fault
abbrev pub first_line : Option ℕ → Option Answered → List ℕ → Option ℕ
first_line (Some line) place reply = Some line
first_line None None reply = None
first_line None (Some place) reply = if is_fault reply then Some (line_in place (last_number reply)) else None
