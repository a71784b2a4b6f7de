use Rattle.std.proofs.Common.{◌≡◌, take}
use Rattle.std.specs.List.{fold}
use Rattle.rsp_explain.specs.Places.{number_after}
use Rattle.rsp_explain.proofs.places.last_number.Given as goal

abbrev pub invariant-loop-byte : goal.invariant-loop-byte
invariant-loop-byte l = l.number ≡ fold number_after 0 (take l.byte-index l.byte-items)
