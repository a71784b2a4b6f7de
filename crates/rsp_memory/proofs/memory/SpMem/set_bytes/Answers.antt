use Rattle.rsp_memory.proofs.Runs.{with_bytes-inside}
use Rattle.rsp_memory.proofs.memory.SpMem.set_bytes.Goals as goal

pub returns-then-bytes-at : goal.returns-then-bytes-at
returns-then-bytes-at c =
    rw (← c.self.view_is) (with_bytes-inside _ _ c.args.a c.args.bytes.now c.self.told c.if-bytes-at.true c.splice.ensures)
