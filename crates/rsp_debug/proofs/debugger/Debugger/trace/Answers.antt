use Rattle.std.proofs.Common.{◌∙◌, ap, length}
use Rattle.rsp_debug.specs.Debugging.{Debugging, stop_in, after_run}
use Rattle.rsp_debug.proofs.RunEnds.{stop-is, ran-is}
use Rattle.rsp_debug.proofs.debugger.Debugger.trace.Goals as goal

pub returns-clause-stop : goal.returns-clause-stop
returns-clause-stop g c = stop-is _ _ _ _ _ _ c.trace.ensures.run.end ∙ ap (λ (d : Debugging). stop_in (length c.args.out.now) d) c.self.view_is

pub returns-clause-next : goal.returns-clause-next
returns-clause-next g c = ran-is _ _ _ _ _ _ _ _ c.trace.ensures.run ∙ ap (λ (d : Debugging). after_run (length c.args.out.now) d) c.self.view_is
