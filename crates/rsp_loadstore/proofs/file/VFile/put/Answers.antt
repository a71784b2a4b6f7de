use Rattle.rsp_loadstore.proofs.Ranges.{file_set}
use Rattle.rsp_loadstore.proofs.file.VFile.put.Goals as goal

pub invariant_of-self : goal.invariant_of-self
invariant_of-self c = file_set _ _ _ c.requires (rw (c.from_simd.ensures, c.to_simd.ensures.value) c.to_simd.ensures.vector) c.self.invariant
