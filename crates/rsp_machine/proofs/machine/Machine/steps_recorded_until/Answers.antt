use Rattle.rsp_machine.proofs.Records.{are-recorded}
use Rattle.rsp_machine.proofs.machine.Machine.steps_recorded_until.Goals as goal

pub returns-clause-recorded : goal.returns-clause-recorded
returns-clause-recorded g c =
    let e = c.run_loop.ensures in
    are-recorded c.run_loop.result c.args.self.now c.run_loop.new.self c.args.records.now c.run_loop.new.slots e.within e.made e.told e.before
