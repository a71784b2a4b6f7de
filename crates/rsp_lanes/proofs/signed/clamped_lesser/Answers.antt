use Rattle.std.proofs.Common.{◌∙◌, get_or, ap}
use Rattle.rsp_lanes.specs.Lanes.{each_lane}
use Rattle.rsp_numbers.specs.Numbers.{s16}
use Rattle.rsp_lanes.proofs.Kit.{lane_of}
use Rattle.rsp_lanes.proofs.Sums.{lesser_still, lesser_still_is, lesser_lanes}
use Rattle.rsp_lanes.proofs.signed.clamped_lesser.Goals as goal

pub returns : goal.returns
unfolding each_lane
returns c i h =
    let lanes = c.from_simd.ensures ∙ rw (c.signed.ensures.value, c.signed-2.ensures.value) (lesser_lanes _ _ c.signed.ensures.within c.signed-2.ensures.within) in
    ap s16 (lane_of 0 (λ i. lesser_still (get_or c.args.a.now i 0) (get_or c.args.b.now i 0)) _ lanes i h) ∙ lesser_still_is (get_or c.args.a.now i 0) (get_or c.args.b.now i 0)
