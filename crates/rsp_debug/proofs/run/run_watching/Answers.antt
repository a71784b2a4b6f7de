use Rattle.std.proofs.Common.{◌∙◌}
use Rattle.rsp_debug.proofs.RunEnds.{watched-run}
use Rattle.rsp_debug.proofs.WatchChanges.{snapshots-of}
use Rattle.rsp_debug.proofs.run.run_watching.Goals as goal

pub run_to-requires-clause-same : goal.run_to-requires-clause-same
run_to-requires-clause-same g c = (snapshots-of _ _ _ _ c.snapshots-snapshots.ensures (c.bytes.ensures ∙ c.dmem.ensures)).same

pub returns : goal.returns
returns g c = watched-run _ _ _ _ _ _ _ _ _ _ (snapshots-of _ _ _ _ c.snapshots-snapshots.ensures (c.bytes.ensures ∙ c.dmem.ensures)) c.run_to.ensures
