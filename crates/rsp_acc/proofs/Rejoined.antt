-- Accumulators by their parts, and their parts again.
use Rattle.std.proofs.Common.{◌≡◌, ◌<◌, ℕ, ℤ, List, arith, sym, ◌∙◌, refl, pos, negsuc, ◌+ℤ◌, ◌-ℤ◌}
use Rattle.std.proofs.lemmas.Int.{ints}
use Rattle.rsp_lanes.specs.Lanes.{each_lane}
use Rattle.rsp_lanes.proofs.Kit.{eta, each_same, lane_of}
use Rattle.rsp_numbers.specs.Numbers.{number, IsNumber, AreNumbers, join, high, middle, low, modulo}
use Rattle.rsp_numbers.proofs.Join.{high_join, middle_join, low_join}
use Rattle.rsp_acc.specs.Planes.{joined, ArePlanes, low_lanes, with_low}
use Rattle.rsp_acc.proofs.Fill.{with_low_is}

pub low_below : (z : ℤ) → low z < 65536
unfolding low
low_below (pos n) = omega arith
low_below (negsuc n) = omega arith

rest_again : (z : ℤ) → (z -ℤ pos (modulo z 65536)) +ℤ pos (modulo z 65536) ≡ z
rest_again z = omega (arith, ints)

pub parts_again : (z : ℤ) → IsNumber z → join (high z) (middle z) (low z) ≡ z
unfolding low
parts_again z h = with_low_is z (low z) h (low_below z) ∙ rest_again z

-- the three planes of accumulators join to them
pub parts_joined : (xs : List ℤ) → AreNumbers xs
    → joined (each_lane (λ i. high (number xs i))) (each_lane (λ i. middle (number xs i))) (each_lane (λ i. low (number xs i))) ≡ xs
parts_joined xs h =
    each_same _ _ (λ i k. rw (
      lane_of 0 (λ i. high (number xs i)) _ refl i k,
      lane_of 0 (λ i. middle (number xs i)) _ refl i k,
      lane_of 0 (λ i. low (number xs i)) _ refl i k,
    ) (parts_again (number xs i) (h.1 i)))
    ∙ sym (eta (pos 0) xs h.0)

-- the planes that were joined are read, and the low ones replaced
module _ (h m l : List ℕ) (planes : ArePlanes h m l) where
  pub high_joined : h ≡ each_lane (λ i. high (number (joined h m l) i))
  high_joined = eta 0 h planes.0.0 ∙ each_same _ _ (λ i k. rw (lane_of (pos 0) _ (joined h m l) refl i k) (sym (high_join _ _ _ (planes.0.1 i) (planes.1.1 i) (planes.2.1 i))))

  pub middle_joined : m ≡ each_lane (λ i. middle (number (joined h m l) i))
  middle_joined = eta 0 m planes.1.0 ∙ each_same _ _ (λ i k. rw (lane_of (pos 0) _ (joined h m l) refl i k) (sym (middle_join _ _ _ (planes.0.1 i) (planes.1.1 i) (planes.2.1 i))))

  pub low_joined : l ≡ low_lanes (joined h m l)
  low_joined = eta 0 l planes.2.0 ∙ each_same _ _ (λ i k. rw (lane_of (pos 0) _ (joined h m l) refl i k) (sym (low_join _ _ _ (planes.0.1 i) (planes.1.1 i) (planes.2.1 i))))

  pub joined_with_low : (x : List ℕ) → joined h m x ≡ with_low (joined h m l) x
  unfolding with_low
  joined_with_low x = each_same _ _ (λ i k. rw (
    lane_of (pos 0) _ (joined h m l) refl i k,
    high_join _ _ _ (planes.0.1 i) (planes.1.1 i) (planes.2.1 i),
    middle_join _ _ _ (planes.0.1 i) (planes.1.1 i) (planes.2.1 i),
  ) refl)
