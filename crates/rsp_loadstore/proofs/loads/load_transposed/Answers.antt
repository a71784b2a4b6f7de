use Rattle.std.proofs.Common.{◌∙◌}
use Rattle.rsp_loadstore.specs.Loads.{load_pairs}
use Rattle.rsp_loadstore.proofs.Transposed.{transposed_loaded}
use Rattle.rsp_loadstore.proofs.loads.load_transposed.Goals as goal

pub returns-in-Some : goal.returns-in-Some
unfolding load_pairs
returns-in-Some c =
    c.set_diagonal.ensures
    ∙ transposed_loaded c.args.memory.now c.args.file.now c.args.vt c.args.e c.args.a c.in-Some.bytes.now c.requires.element c.in-Some.ensures.1
