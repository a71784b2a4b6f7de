use Rattle.std.proofs.Common.{◌≡◌, ◌≤◌, length, reverse}
use Rattle.rsp_syntax.specs.Chars.{skip_blanks}
use Rattle.rsp_syntax.proofs.line_bytes.drop_last_blanks.Given as goal

abbrev pub invariant-loop-text : goal.invariant-loop-text
invariant-loop-text l = (reverse (skip_blanks (reverse l.text)) ≡ reverse (skip_blanks (reverse l.initial.text))) × (length l.text ≤ length l.initial.text)

abbrev pub decreases-loop-text : goal.decreases-loop-text
decreases-loop-text l = length l.text
