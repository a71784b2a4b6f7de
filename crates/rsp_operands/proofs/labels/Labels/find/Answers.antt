use Rattle.std.proofs.Common.{◌∙◌}
use Rattle.rsp_operands.proofs.Lookups.{found_in}
use Rattle.rsp_operands.proofs.labels.Labels.find.Goals as goal

pub returns : goal.returns
returns c = rw (← c.self.view_is) (c.copied.ensures ∙ c.get.ensures.value ∙ found_in c.args.name.now c.self.inside.addresses.entries)
