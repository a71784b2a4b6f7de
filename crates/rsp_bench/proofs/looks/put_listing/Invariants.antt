use Rattle.std.proofs.Common.{◌≡◌, ◌≤◌, ◌*◌, take, length}
use Rattle.std.specs.List.{flat_map}
use Rattle.rsp_bench.specs.Looks.{listed_line}
use Rattle.rsp_bench.proofs.looks.put_listing.Given as goal

abbrev pub invariant-loop-listed : goal.invariant-loop-listed
invariant-loop-listed l =
    (l.reply ≡ flat_map listed_line (take l.listed-index l.words))
    × (length l.reply ≤ 78 * l.listed-index)
