use Rattle.std.proofs.Common.{◌∙◌}
use Rattle.rsp_loadstore.proofs.AtOnce.{run_stored}
use Rattle.rsp_loadstore.proofs.stores.store_run.Goals as goal

pub returns : goal.returns
returns c =
    c.set_bytes.ensures ∙ rw (c.bytes_from.ensures, c.reg.ensures.value) (run_stored c.args.file.now c.args.memory.now c.args.vt c.args.i c.args.n c.args.a c.requires.count)
