use Rattle.std.proofs.Common.{◌∙◌}
use Rattle.rsp_acc.proofs.Rejoined.{parts_joined}
use Rattle.rsp_acc.proofs.addends.Addends.of.Goals as goal

pub returns : goal.returns
returns g c =
    c.from_planes.ensures
    ∙ rw (c.part-high.ensures.value, c.part-middle.ensures.value, c.part-low.ensures.value) (parts_joined _ c.part-high.ensures.within)
