use Rattle.std.proofs.Common.{ap, ◌∙◌}
use Rattle.rsp_machine.specs.declared.registers.AllRegisters.{AllRegisters}
use Rattle.rsp_machine.specs.Registers.{registers_of, with_registers}
use Rattle.rsp_machine.proofs.Copying.{with-registers-as}
use Rattle.rsp_machine.proofs.machine.Machine.all_registers.Goals as goal

pub returns-clause-value : goal.returns-clause-value
unfolding registers_of
returns-clause-value g c = rw (← c.self.view_is) cc

pub returns-clause-back : goal.returns-clause-back
returns-clause-back g c t d i r =
    ap (λ (x : AllRegisters). with_registers x t) (returns-clause-value g c) ∙ with-registers-as c.args.self.now t c.in_range.ensures.accumulators d i r
