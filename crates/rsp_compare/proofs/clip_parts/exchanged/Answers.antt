use Rattle.std.proofs.Common.{◌≡◌, ◌∙◌, refl, true, false, Bool, cond, ◌&&◌, slice_index_or}
use Rattle.rsp_lanes.specs.Lanes.{bool_xor}
use Rattle.rsp_lanes.proofs.Kit.{lane_of, each_same}
use Rattle.rsp_compare.proofs.clip_parts.exchanged.Goals as goal

first : (t x y : Bool) → bool_xor x (bool_xor x y && t) ≡ cond t y x
first true true true = refl
first true true false = refl
first true false true = refl
first true false false = refl
first false true true = refl
first false true false = refl
first false false true = refl
first false false false = refl

second : (t x y : Bool) → bool_xor y (bool_xor x y && t) ≡ cond t x y
second true true true = refl
second true true false = refl
second true false true = refl
second true false false = refl
second false true true = refl
second false true false = refl
second false false true = refl
second false false false = refl

pub returns-clause-first : goal.returns-clause-first
returns-clause-first c = c.xor-2.ensures ∙ each_same _ _ (λ i h.
    rw (lane_of false _ _ c.and-difference.ensures i h, lane_of false _ _ c.xor.ensures i h)
    (first (slice_index_or c.args.at i false) (slice_index_or c.args.a i false) (slice_index_or c.args.b i false)))

pub returns-clause-second : goal.returns-clause-second
returns-clause-second c = c.xor-3.ensures ∙ each_same _ _ (λ i h.
    rw (lane_of false _ _ c.and-difference.ensures i h, lane_of false _ _ c.xor.ensures i h)
    (second (slice_index_or c.args.at i false) (slice_index_or c.args.a i false) (slice_index_or c.args.b i false)))
