use Rattle.rsp_memory.proofs.Runs.{two_pieces}
use Rattle.rsp_memory.proofs.memory.SpMem.set_wrapping_bytes.Goals as goal

pub returns : goal.returns
returns c =
    rw (← c.self.view_is) (two_pieces _ _ _ c.args.a c.min.result c.args.bytes.now _ _ c.self.told (c.splice.auto.list) c.requires c.min.ensures c.split_at.ensures.front c.split_at.ensures.back c.splice.ensures c.splice-2.ensures)
