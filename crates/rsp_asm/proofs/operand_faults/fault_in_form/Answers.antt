use Rattle.std.proofs.Common.{sym, subst}
use Rattle.rsp_asm.specs.Forms.{form}
use Rattle.rsp_asm.specs.FormOperands.{IsUsable}
use Rattle.rsp_asm.proofs.Explaining.{usable_at}
use Rattle.rsp_asm.proofs.operand_faults.fault_in_form.Goals as goal

pub is_refused-requires : goal.is_refused-requires
is_refused-requires c = subst IsUsable (sym c.expected_at-expected.ensures) (usable_at (form c.args.named) c.args.index c.requires)
