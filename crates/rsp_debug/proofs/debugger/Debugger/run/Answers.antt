use Rattle.std.proofs.Common.{◌∙◌, ap}
use Rattle.rsp_debug.specs.Debugging.{Debugging, stop_in, after_run}
use Rattle.rsp_debug.proofs.RunEnds.{stop-is, ran-is, unmoved-run}
use Rattle.rsp_debug.proofs.debugger.Debugger.run.Goals as goal

pub returns-clause-stop : goal.returns-clause-stop
returns-clause-stop g c = stop-is _ _ _ _ _ _ (unmoved-run _ _ _ _ _ _ _ _ _ c.none.ensures c.run.ensures).end ∙ ap (λ (d : Debugging). stop_in c.args.n d) c.self.view_is

pub returns-clause-next : goal.returns-clause-next
returns-clause-next g c = ran-is _ _ _ _ _ _ _ _ (unmoved-run _ _ _ _ _ _ _ _ _ c.none.ensures c.run.ensures) ∙ ap (λ (d : Debugging). after_run c.args.n d) c.self.view_is
