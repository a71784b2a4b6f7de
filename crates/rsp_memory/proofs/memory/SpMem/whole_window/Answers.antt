use Rattle.std.proofs.Common.{refl}
use Rattle.rsp_memory.proofs.Runs.{window_whole}
use Rattle.rsp_memory.proofs.memory.SpMem.whole_window.Goals as goal

pub returns : goal.returns
returns c = rw (← c.self.view_is) (window_whole _ _ c.args.a c.first_chunk.result c.self.told refl c.first_chunk.ensures.cases)
