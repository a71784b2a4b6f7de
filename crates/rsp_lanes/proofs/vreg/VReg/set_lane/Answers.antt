use Rattle.std.proofs.Common.{◌≡◌, ◌∙◌, ◌<◌, ℕ, List, [], ◌∷◌, length, get_or, slice_set, nat_eq, cond, false, refl}
use Rattle.rsp_lanes.specs.Lanes.{each_lane}
use Rattle.rsp_lanes.proofs.Kit.{eight, below_eight, each_same, lane_of}
use Rattle.rsp_lanes.proofs.vreg.VReg.set_lane.Goals as goal

-- the list of the lanes' numbers
place_is : (k : ℕ) → k < 8 → get_or (0 ∷ 1 ∷ 2 ∷ 3 ∷ 4 ∷ 5 ∷ 6 ∷ 7 ∷ []) k 0 ≡ k
place_is = below_eight (λ k. get_or (0 ∷ 1 ∷ 2 ∷ 3 ∷ 4 ∷ 5 ∷ 6 ∷ 7 ∷ []) k 0 ≡ k) refl refl refl refl refl refl refl refl

-- a choice of one lane is a write of it
merged : (x : ℕ) (v : List ℕ) → length v ≡ 8 → (i : ℕ) → i < 8 → each_lane (λ k. cond (nat_eq k i) x (get_or v k 0)) ≡ slice_set v i x
unfolding each_lane
merged x = eight (λ v. (i : ℕ) → i < 8 → each_lane (λ k. cond (nat_eq k i) x (get_or v k 0)) ≡ slice_set v i x)
    (λ a b c d e f g h. below_eight (λ i. each_lane (λ k. cond (nat_eq k i) x (get_or (a ∷ b ∷ c ∷ d ∷ e ∷ f ∷ g ∷ h ∷ []) k 0)) ≡ slice_set (a ∷ b ∷ c ∷ d ∷ e ∷ f ∷ g ∷ h ∷ []) i x) refl refl refl refl refl refl refl refl)

pub returns : goal.returns
returns c =
    c.merge.ensures
    ∙ each_same _ _ (λ k h. rw (lane_of false _ _ c.is_equal.ensures.value k h, c.from_array-places.ensures, place_is k h, lane_of 0 _ _ c.splat.ensures k h, lane_of 0 _ _ c.splat-2.ensures k h, c.from_simd-old.ensures, c.to_simd.ensures.value) refl)
    ∙ merged c.args.value c.args.self.now c.to_simd.ensures.vector.0 c.args.i c.requires
