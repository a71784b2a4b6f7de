use Rattle.rsp_scalar.proofs.Ranges.{empty_are}
use Rattle.rsp_scalar.proofs.registers.Regs.new.Goals as goal

pub invariant_of-result : goal.invariant_of-result
invariant_of-result c = empty_are
