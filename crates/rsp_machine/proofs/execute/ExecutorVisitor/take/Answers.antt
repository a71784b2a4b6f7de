use Rattle.std.proofs.Common.{rules}
use Rattle.rsp_machine.proofs.CountersApart.{footprint_elsewhere}
use Rattle.rsp_machine.proofs.execute.ExecutorVisitor.take.Goals as goal

pub returns : goal.returns
returns g c =
    let e = c.args.self.now in
    rw (← footprint_elsewhere c.args.inst e.before e.machine.now) (search rules)
