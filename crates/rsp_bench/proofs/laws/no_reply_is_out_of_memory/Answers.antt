use Rattle.rsp_bench.proofs.OutOfMemoryReplies.{none_out_of_memory}
use Rattle.rsp_bench.proofs.laws.no_reply_is_out_of_memory.Goals as goal

pub returns : goal.returns
returns c = none_out_of_memory
