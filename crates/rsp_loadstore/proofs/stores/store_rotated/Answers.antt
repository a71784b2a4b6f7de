use Rattle.std.proofs.Common.{◌∙◌}
use Rattle.rsp_loadstore.specs.Stores.{store_pairs}
use Rattle.rsp_loadstore.proofs.RotatedStores.{rotated_stored}
use Rattle.rsp_loadstore.proofs.stores.store_rotated.Goals as goal

pub returns : goal.returns
unfolding store_pairs
returns c =
    c.set_bytes.ensures ∙ rw (c.bytes_from.ensures, c.reg.ensures.value) (rotated_stored c.args.file.now c.args.memory.now c.args.vt c.args.e c.args.a)
