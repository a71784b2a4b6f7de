use Rattle.std.proofs.Common.{◌≡◌, ◌∙◌, ℕ, List, length, get_or, nat_lt}
use Rattle.std.specs.Simd.Lanes.{zip2}
use Rattle.rsp_lanes.specs.Lanes.{each_lane}
use Rattle.rsp_lanes.proofs.Kit.{zip2_each}
use Rattle.rsp_lanes.proofs.Masks.{made_mask, made_truths, bits_lane}
use Rattle.rsp_lanes.proofs.vreg.VReg.is_below.Goals as goal

tests : (a b : List ℕ) → length a ≡ 8 → length b ≡ 8 → zip2 (λ x y. bits_lane (nat_lt x y)) a b ≡ each_lane (λ i. bits_lane (nat_lt (get_or a i 0) (get_or b i 0)))
tests a b m n = zip2_each _ 0 0 a b m n

pub from_simd-requires : goal.from_simd-requires
from_simd-requires c = made_mask (λ i. nat_lt (get_or c.self.inside.lanes i 0) (get_or c.other.inside.lanes i 0)) _ (tests _ _ c.self.invariant.0 c.other.invariant.0)

pub returns-clause-value : goal.returns-clause-value
returns-clause-value c = c.from_simd.ensures ∙ rw (← c.self.view_is, ← c.other.view_is) (made_truths (λ i. nat_lt (get_or c.self.inside.lanes i 0) (get_or c.other.inside.lanes i 0)) _ (tests _ _ c.self.invariant.0 c.other.invariant.0))
