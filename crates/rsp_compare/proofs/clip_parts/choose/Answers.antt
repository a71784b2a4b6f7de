use Rattle.std.proofs.Common.{◌≡◌, ◌∙◌, refl, true, false, Bool, cond, not, ◌&&◌, ◌||◌, slice_index_or}
use Rattle.rsp_lanes.proofs.Kit.{lane_of, each_same}
use Rattle.rsp_compare.proofs.clip_parts.choose.Goals as goal

chosen : (t x y : Bool) → ((t && x) || (not t && y)) ≡ cond t x y
chosen true true y = refl
chosen true false y = refl
chosen false x y = refl

pub returns : goal.returns
returns c = c.or.ensures ∙ each_same _ _ (λ i h.
    rw (lane_of false _ _ c.and.ensures i h, lane_of false _ _ c.and-2.ensures i h, lane_of false _ _ c.not.ensures i h)
    (chosen (slice_index_or c.args.at i false) (slice_index_or c.args.a i false) (slice_index_or c.args.b i false)))
