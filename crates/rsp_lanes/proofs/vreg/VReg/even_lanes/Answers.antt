use Rattle.std.proofs.Common.{◌≡◌, ◌∙◌, ◌++◌, ◌*◌, ◌%◌, ℕ, List, [], ◌∷◌, length, get_or, refl}
use Rattle.std.specs.Simd.Lanes.{pick_l}
use Rattle.rsp_lanes.specs.Lanes.{each_lane}
use Rattle.rsp_lanes.proofs.Kit.{eight}
use Rattle.rsp_lanes.proofs.vreg.VReg.even_lanes.Goals as goal

picked : (v : List ℕ) → length v ≡ 8 → pick_l 0 (v ++ v) (0 ∷ 2 ∷ 4 ∷ 6 ∷ 0 ∷ 2 ∷ 4 ∷ 6 ∷ []) ≡ each_lane (λ i. get_or v (2 * i % 8) 0)
unfolding each_lane
picked = eight (λ v. pick_l 0 (v ++ v) (0 ∷ 2 ∷ 4 ∷ 6 ∷ 0 ∷ 2 ∷ 4 ∷ 6 ∷ []) ≡ each_lane (λ i. get_or v (2 * i % 8) 0)) (λ a b c d e f g h. refl)

pub returns : goal.returns
returns c = c.from_simd.ensures ∙ rw (c.to_simd.ensures.value) (picked c.args.self.now c.to_simd.ensures.vector.0)
