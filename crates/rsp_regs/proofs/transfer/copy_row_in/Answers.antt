use Rattle.std.proofs.Common.{arith}
use Rattle.rsp_regs.proofs.Pairs.{row_in-inside}
use Rattle.rsp_regs.proofs.transfer.copy_row_in.Goals as goal

pub returns-then-dram-n : goal.returns-then-dram-n
returns-then-dram-n c =
    row_in-inside _ _ _ c.args.dram c.args.length _ _ (omega arith) (omega (arith, c.if-dram-n.true)) c.run.ensures.value c.set_bytes.ensures
