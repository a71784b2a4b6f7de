use Rattle.std.proofs.Common.{arith}
use Rattle.std.proofs.lemmas.Grind.{common_steps}
use Rattle.rsp_script_io.proofs.Texts.{parts}
use Rattle.rsp_bench.specs.Looks.{registers_text}
use Rattle.rsp_bench.proofs.Registers.{register_lines}
use Rattle.rsp_bench.proofs.looks.put_registers.Goals as goal

pub returns : goal.returns
unfolding registers_text
returns g c =
    let same = register_lines c.regs-registers.result.words c.args.debugger.now.state.registers c.regs-registers.ensures.words in
    rw (c.push_register_lines.ensures, same) (grind (arith, parts, common_steps))
