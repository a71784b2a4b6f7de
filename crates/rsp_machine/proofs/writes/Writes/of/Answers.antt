use Rattle.std.proofs.Common.{◌≡◌, ◌<◌, rules, subst, sym}
use Rattle.rsp_machine.specs.Writes.{writes_of}
use Rattle.rsp_machine.specs.declared.writes.Writes.{Writes}
use Rattle.rsp_machine.proofs.WrittenRegisters.{writes-below}
use Rattle.rsp_machine.proofs.writes.Writes.of.Goals as goal

pub returns-clause-register : goal.returns-clause-register
unfolding writes_of
returns-clause-register g c =
    let same : c.visit.new.visitor.writes ≡ writes_of c.args.machine.now = search rules in
    subst (λ (x : Writes). x.scalar < 32) (sym same) (writes-below c.args.machine.now)
