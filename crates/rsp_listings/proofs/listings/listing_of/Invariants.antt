use Rattle.std.proofs.Common.{◌≡◌, ◌+◌, ◌*◌, ◌++◌, drop}
use Rattle.std.specs.String.{string_bytes}
use Rattle.rsp_syntax.specs.SourceLine.{text_of_lines}
use Rattle.rsp_syntax.specs.Disassembly.{listing}
use Rattle.rsp_listings.proofs.listings.listing_of.Given as goal

abbrev pub invariant-loop-i : goal.invariant-loop-i
invariant-loop-i l = string_bytes l.text ++ text_of_lines (listing (l.origin + 4 * l.i) (drop l.i l.words)) ≡ text_of_lines (listing l.origin l.words)
