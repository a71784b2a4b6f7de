use Rattle.std.proofs.Common.{◌∙◌, arith}
use Rattle.rsp_loadstore.specs.Stores.{store_pairs}
use Rattle.rsp_loadstore.proofs.AtOnce.{unsigned_stored}
use Rattle.rsp_loadstore.proofs.stores.store_unsigned_packed.Goals as goal

pub returns : goal.returns
unfolding store_pairs
returns c =
    c.set_bytes.ensures ∙ rw (c.packed_bytes_from.ensures, c.reg.ensures.value) (unsigned_stored c.args.file.now c.args.memory.now c.args.vt c.args.e c.args.a 8 (omega arith))
