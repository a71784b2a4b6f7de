use Rattle.rsp_dis.proofs.Names.{names_differ, names_free}
use Rattle.rsp_dis.proofs.laws.names_are_distinct.Goals as goal

pub returns : goal.returns
returns c = record { distinct = names_differ; free = names_free }
