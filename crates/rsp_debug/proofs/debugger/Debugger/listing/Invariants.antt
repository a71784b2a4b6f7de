use Rattle.std.proofs.Common.{◌≡◌}
use Rattle.rsp_debug.specs.Queries.{listing_of}
use Rattle.rsp_debug.proofs.debugger.Debugger.listing.Given as goal

abbrev pub invariant-loop-i : goal.invariant-loop-i
invariant-loop-i g l = l.words.items ≡ listing_of l.self.state l.address l.i
