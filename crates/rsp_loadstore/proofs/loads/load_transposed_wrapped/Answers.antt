use Rattle.std.proofs.Common.{◌∙◌}
use Rattle.rsp_loadstore.specs.Loads.{load_pairs}
use Rattle.rsp_loadstore.proofs.Transposed.{transposed_loaded}
use Rattle.rsp_loadstore.proofs.loads.load_transposed_wrapped.Goals as goal

pub returns : goal.returns
unfolding load_pairs
returns c =
    c.set_diagonal.ensures
    ∙ transposed_loaded c.args.memory.now c.args.file.now c.args.vt c.args.e c.args.a c.window.result c.requires.element c.window.ensures
