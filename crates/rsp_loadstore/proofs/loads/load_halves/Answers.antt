use Rattle.std.proofs.Common.{◌+◌, ◌-◌, ◌*◌, ◌%◌, ◌∙◌, arith}
use Rattle.rsp_loadstore.specs.Loads.{load_pairs}
use Rattle.rsp_loadstore.proofs.BytesLoaded.{lanes_loaded}
use Rattle.rsp_loadstore.proofs.loads.load_halves.Goals as goal

pub returns : goal.returns
unfolding load_pairs
returns c =
    c.set_reg.ensures.value ∙ rw (c.from_halves.ensures, c.window-bytes.ensures)
    (lanes_loaded c.args.memory.now c.args.file.now c.args.vt 128 c.args.a (λ j. c.args.a % 8 + 16 - c.args.e + 2 * j) (λ j. 16 - c.args.e + 2 * j)
    (omega (arith, c.set_reg.ensures.within.count, c.requires.register)) (c.set_reg.ensures.within.registers c.args.vt c.requires.register).0 (λ j. omega (arith, c.requires.element)))
