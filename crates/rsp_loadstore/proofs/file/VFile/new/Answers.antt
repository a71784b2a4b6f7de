use Rattle.rsp_loadstore.proofs.Ranges.{file_of_zeros}
use Rattle.rsp_loadstore.proofs.file.VFile.new.Goals as goal

pub invariant_of-result : goal.invariant_of-result
invariant_of-result c = file_of_zeros _ c.new.ensures
