use Rattle.std.proofs.Common.{◌≤◌}
use Rattle.rsp_cli_files.proofs.listing.print_listing.Given as goal

abbrev pub invariant-loop-line : goal.invariant-loop-line
invariant-loop-line g l = (goal.iterator-loop-line g).can_next l.line-iterator × (goal.iterator-loop-line g).is_finite l.line-iterator × (l.address ≤ 4096)
