use Rattle.std.proofs.Common.{◌≡◌, drop}
use Rattle.std.specs.Prelude.{map}
use Rattle.rsp_syntax.specs.Names.{look_up}
use Rattle.rsp_syntax.proofs.names.look_up.Given as goal

abbrev pub invariant-loop-name : goal.invariant-loop-name
invariant-loop-name l = look_up (map (λ e. (e.0.now, e.1)) (drop l.name-index l.table)) l.text ≡ look_up (map (λ e. (e.0.now, e.1)) l.table) l.text
