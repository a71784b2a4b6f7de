use Rattle.rsp_machine.proofs.LoopSteps.{ends-all, ends-stuck}
use Rattle.rsp_machine.proofs.machine.Machine.steps.Goals as goal

pub returns : goal.returns
returns g c =
    let e = c.run_loop.ensures in
    let all = ends-all c.run_loop.result c.args.n c.args.self.now c.run_loop.new.self e.made e.within (λ less. ends-stuck _ _ _ (e.ends less)) in
    record { state = all.0; done = all.1; ranges = c.in_range.ensures }
