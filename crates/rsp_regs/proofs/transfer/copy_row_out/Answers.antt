use Rattle.std.proofs.Common.{◌+◌, ◌%◌, length, drop, arith, ap}
use Rattle.std.proofs.lemmas.List.{length-take, length-drop}
use Rattle.rsp_regs.proofs.Pairs.{row_out-turn}
use Rattle.rsp_regs.proofs.transfer.copy_row_out.Goals as goal

pub loop-done-smaller : goal.loop-done-smaller
loop-done-smaller c =
    omega (
      arith,
      ap length c.run-run.ensures.value,
      length-take c.min-room.result (drop ((c.args.sp + c.loop-done.done) % 4096) c.args.bank.now),
      length-drop ((c.args.sp + c.loop-done.done) % 4096) c.args.bank.now,
      c.run-run.ensures.whole,
    )

pub loop-done-preserved : goal.loop-done-preserved
loop-done-preserved c = (
  row_out-turn _ _ _ _ _ _ _ _ _ c.run-run.ensures.whole c.run-run.ensures.value c.loop-done.invariant.0 c.set_bytes.ensures,
  omega (arith, ap length c.run-run.ensures.value, length-take c.min-room.result (drop ((c.args.sp + c.loop-done.done) % 4096) c.args.bank.now)),
)
