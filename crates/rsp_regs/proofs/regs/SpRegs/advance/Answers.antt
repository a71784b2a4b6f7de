use Rattle.std.proofs.Common.{◌≡◌, ◌+◌, ◌*◌, ◌%◌, arith}
use Rattle.rsp_regs.proofs.Whole.{times-whole}
use Rattle.rsp_regs.proofs.regs.SpRegs.advance.Goals as goal

pub invariant_of-self : goal.invariant_of-self
invariant_of-self c =
    let t = c.args.t.now in
    let bytes : (t.count + 1) * t.length % 8 ≡ 0 = times-whole (t.count + 1) t.length c.requires.whole.length in
    let gaps : t.count * t.skip % 8 ≡ 0 = times-whole t.count t.skip c.requires.whole.skip in
    record {
      memory = (omega arith, omega arith);
      dram = (omega arith, omega arith);
      skip = (omega arith, omega arith);
    }
