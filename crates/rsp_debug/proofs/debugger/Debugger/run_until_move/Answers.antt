use Rattle.std.proofs.Common.{◌∙◌, ap}
use Rattle.rsp_debug.specs.Debugging.{Debugging, move_end_in, after_run_until_move}
use Rattle.rsp_debug.proofs.RunEnds.{move-end-is, move-end-within, ran-is}
use Rattle.rsp_debug.proofs.debugger.Debugger.run_until_move.Goals as goal

pub returns-clause-end : goal.returns-clause-end
returns-clause-end g c = move-end-is _ _ _ _ _ _ _ _ c.run-stop.ensures.end c.end.ensures ∙ ap (λ (d : Debugging). move_end_in c.args.n c.args.moves d) c.self.view_is

pub returns-clause-within : goal.returns-clause-within
returns-clause-within g c = move-end-within _ _ _ _ _ _ _ _ c.run-stop.ensures.end c.end.ensures

pub returns-clause-next : goal.returns-clause-next
returns-clause-next g c = ran-is _ _ _ _ _ _ _ _ c.run-stop.ensures ∙ ap (λ (d : Debugging). after_run_until_move c.args.n c.args.moves d) c.self.view_is
