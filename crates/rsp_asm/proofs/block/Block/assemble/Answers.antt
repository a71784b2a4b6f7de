use Rattle.rsp_asm.proofs.Faults.{short_hides}
use Rattle.rsp_asm.proofs.block.Block.assemble.Goals as goal

pub returns-in-OutOfMemory-clause-err : goal.returns-in-OutOfMemory-clause-err
returns-in-OutOfMemory-clause-err c =
    rw (← c.self.view_is) (rw c.as_str.ensures.value at (short_hides _ _ c.in-Err.fault c.in-Err.ensures.err c.in-OutOfMemory.is))
