use Rattle.std.proofs.Common.{◌∙◌, arith}
use Rattle.rsp_loadstore.proofs.BytesLoaded.{line_loaded}
use Rattle.rsp_loadstore.proofs.loads.load_quadword.Goals as goal

pub returns : goal.returns
returns c =
    c.set_reg.ensures.value ∙ rw (c.from_rotated.ensures, c.window.ensures)
    (line_loaded c.args.memory.now c.args.file.now c.args.vt c.args.a (omega (arith, c.set_reg.ensures.within.count, c.requires)) (c.set_reg.ensures.within.registers c.args.vt c.requires).0)
