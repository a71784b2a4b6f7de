use Rattle.std.proofs.Common.{◌∙◌, refl}
use Rattle.rsp_lanes.specs.Lanes.{each_lane}
use Rattle.rsp_numbers.specs.Numbers.{number}
use Rattle.rsp_lanes.proofs.Kit.{each1_of}
use Rattle.rsp_lanes.proofs.Saturation.{saturated, saturated_is, saturated_lanes}
use Rattle.rsp_lanes.proofs.signed.saturated.Goals as goal

pub overflow_cast-saturated : goal.overflow_cast-saturated
unfolding each_lane
overflow_cast-saturated c =
    each1_of _ (λ i. saturated (number c.args.numbers i)) _ (rw c.requires.lanes refl) (λ i h. let r = c.requires.range i h in (saturated_is _ r.0 r.1).fits)

pub returns : goal.returns
unfolding each_lane
returns c =
    c.from_simd.ensures ∙ rw c.requires.lanes (saturated_lanes (number c.args.numbers) (λ i h. let r = c.requires.range i h in saturated_is _ r.0 r.1))
