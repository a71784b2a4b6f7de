use Rattle.std.proofs.Common.{◌∙◌}
use Rattle.rsp_loadstore.specs.Stores.{store_pairs}
use Rattle.rsp_loadstore.proofs.RotatedStores.{transposed_stored}
use Rattle.rsp_loadstore.proofs.stores.store_transposed.Goals as goal

pub returns : goal.returns
unfolding store_pairs
returns c =
    c.set_bytes.ensures ∙ rw (c.bytes_from.ensures, c.diagonal-lanes.ensures) (transposed_stored c.args.file.now c.args.memory.now c.args.vt c.args.e c.args.a c.requires.element)
