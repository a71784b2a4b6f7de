use Rattle.rsp_memory.proofs.Runs.{word_inside}
use Rattle.rsp_memory.proofs.memory.SpMem.set_word.Goals as goal

pub returns-then-at-le4092 : goal.returns-then-at-le4092
returns-then-at-le4092 c =
    rw (← c.self.view_is) (word_inside _ _ _ c.args.a c.args.w c.self.told c.if-at-le4092.true c.ranges.w.fits c.write_u32.ensures c.splice.ensures)
