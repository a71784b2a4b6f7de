use Rattle.rsp_operands.proofs.Lookups.{put_in}
use Rattle.rsp_operands.proofs.labels.Labels.add.Goals as goal

pub returns-clause-ok : goal.returns-clause-ok
returns-clause-ok c = rw (← c.self.view_is) (put_in c.args.name.now c.args.address c.self.inside.addresses c.insert.new.self c.in_ok-insert.ensures.updates)
