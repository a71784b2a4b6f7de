use Rattle.std.proofs.Common.{◌≡◌, ℕ, Bool, List, cond, length, get_or, ◌∙◌, ap}
use Rattle.std.specs.Simd.Lanes.{sel_l}
use Rattle.rsp_lanes.specs.Lanes.{each_lane}
use Rattle.rsp_lanes.proofs.Kit.{eta, sel_of_each}
use Rattle.rsp_lanes.proofs.Masks.{mask_tops}
use Rattle.rsp_lanes.proofs.mask.Mask8.merge.Goals as goal

sel_each : (p : ℕ → Bool) (ms : List Bool) (a b : List ℕ) → ms ≡ each_lane p → length a ≡ 8 → length b ≡ 8 → sel_l ms a b ≡ each_lane (λ i. cond (p i) (get_or a i 0) (get_or b i 0))
sel_each p ms a b e m n =
    ap (λ ms. sel_l ms a b) e ∙ ap (λ a. sel_l (each_lane p) a b) (eta 0 a m) ∙ ap (sel_l (each_lane p) _) (eta 0 b n) ∙ sel_of_each p _ _

pub returns : goal.returns
returns c = c.from_simd.ensures ∙ rw (c.to_simd.ensures.value, c.to_simd-2.ensures.value, ← c.self.view_is) (sel_each _ _ _ _ (mask_tops _ c.self.invariant) c.to_simd.ensures.vector.0 c.to_simd-2.ensures.vector.0)
