use Rattle.rsp_loadstore.proofs.AtOnce.{halves_more}
use Rattle.rsp_loadstore.proofs.stores.store_halves.Goals as goal

pub loop-j-preserved : goal.loop-j-preserved
loop-j-preserved c =
    halves_more c.args.file.now c.args.memory.now c.loop-j.memory c.set_byte.new.self c.packed_bytes_from-bytes.result c.args.vt c.args.e c.args.a c.loop-j.j c.loop-j-test.true
    (rw (c.from_bytes.ensures, c.bytes_from.ensures, c.reg.ensures.value) at c.packed_bytes_from-bytes.ensures) c.loop-j.invariant c.set_byte.ensures
