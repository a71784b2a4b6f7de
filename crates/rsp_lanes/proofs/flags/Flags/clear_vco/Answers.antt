use Rattle.std.proofs.Common.{◌∙◌, refl, false}
use Rattle.rsp_lanes.proofs.Kit.{lane_of}
use Rattle.rsp_lanes.proofs.FlagLanes.{all_same}
use Rattle.rsp_lanes.proofs.flags.Flags.clear_vco.Goals as goal

pub returns : goal.returns
returns c = c.set_vco.ensures ∙ all_same _ _ (λ i h. rw (lane_of false _ _ c.splat.ensures i h, lane_of false _ _ c.splat-2.ensures i h) refl)
