use Rattle.std.proofs.Common.{◌≡◌, ◌∙◌, length, ap, rules, None, map}
use Rattle.rsp_debug.specs.Snapshots.{snapshot_of}
use Rattle.rsp_debug.proofs.WatchChanges.{eight-mapped}
use Rattle.rsp_debug.proofs.watches.Watches.snapshots.Goals as goal

pub returns : goal.returns
returns c =
    let room : length c.self.inside.numbers ≡ 8 = search rules in
    let all = eight-mapped (snapshot_of c.args.dmem.now) c.self.inside.numbers None room ∙ ap (map (snapshot_of c.args.dmem.now)) c.self.view_is in
    let e1 = c.snapshot_of.ensures in let e2 = c.snapshot_of-2.ensures in let e3 = c.snapshot_of-3.ensures in let e4 = c.snapshot_of-4.ensures in
    let e5 = c.snapshot_of-5.ensures in let e6 = c.snapshot_of-6.ensures in let e7 = c.snapshot_of-7.ensures in let e8 = c.snapshot_of-8.ensures in
    rw (e1, e2, e3, e4, e5, e6, e7, e8) all
