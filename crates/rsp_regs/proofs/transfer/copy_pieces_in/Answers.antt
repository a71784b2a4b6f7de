use Rattle.std.proofs.Common.{◌+◌, ◌-◌, arith}
use Rattle.rsp_regs.proofs.Pairs.{row_in-run}
use Rattle.rsp_regs.proofs.transfer.copy_pieces_in.Goals as goal

pub loop-done-preserved : goal.loop-done-preserved
loop-done-preserved c = (
  row_in-run _ _ _ _ _ _ _ _ c.run_or_zeros-run.ensures.bytes c.loop-done.invariant.0 c.set_bytes.ensures,
  omega (arith, c.run_or_zeros-run.ensures.few),
)
