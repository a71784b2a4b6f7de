-- Low parts of accumulators, replaced and restored.
use Rattle.std.proofs.Common.{◌≡◌, ◌<◌, ℕ, ℤ, List, arith, refl, sym, ap, ◌∙◌, pos, negsuc}
use Rattle.std.specs.Prelude.{slice_index}
use Rattle.rsp_lanes.proofs.Kit.{eta, each_same, lane_of}
use Rattle.rsp_numbers.specs.Numbers.{number, IsNumber, AreNumbers, high, middle, low}
use Rattle.rsp_numbers.proofs.Join.{high_join, middle_join, low_join}
use Rattle.rsp_acc.specs.Planes.{with_low_bits, with_low, low_lanes}
use Rattle.rsp_acc.proofs.Rejoined.{low_below, parts_again}

high_below : (z : ℤ) → high z < 65536
unfolding high
high_below (pos n) = omega arith
high_below (negsuc n) = omega arith

middle_below : (z : ℤ) → middle z < 65536
unfolding middle
middle_below (pos n) = omega arith
middle_below (negsuc n) = omega arith

low_of_written : (z : ℤ) (l : ℕ) → l < 65536 → low (with_low_bits z l) ≡ l
low_of_written z l h = low_join (high z) (middle z) l (high_below z) (middle_below z) h

written_again : (z : ℤ) (l : ℕ) → IsNumber z → l < 65536 → with_low_bits (with_low_bits z l) (low z) ≡ z
written_again z l h k =
    rw (high_join (high z) (middle z) l (high_below z) (middle_below z) k, middle_join (high z) (middle z) l (high_below z) (middle_below z) k)
    (parts_again z h)

-- low parts that were written are read
lows_of_written : (xs ys : List ℤ) → low_lanes (with_low ys (low_lanes xs)) ≡ low_lanes xs
unfolding with_low
lows_of_written xs ys = each_same _ _ (λ i k. rw (
  lane_of (pos 0) (λ n. with_low_bits (number ys n) (slice_index (low_lanes xs) n)) _ refl i k,
  lane_of 0 (λ n. low (number xs n)) _ refl i k,
) (low_of_written (number ys i) (low (number xs i)) (low_below (number xs i))))

-- writing the old low parts restores accumulators whose low parts were replaced
lows_again : (xs : List ℤ) (l : List ℕ) → AreNumbers xs → ((i : ℕ) → i < 8 → slice_index l i < 65536) → with_low (with_low xs l) (low_lanes xs) ≡ xs
unfolding with_low
lows_again xs l h k =
    each_same _ _ (λ i n. rw (
      lane_of (pos 0) (λ j. with_low_bits (number xs j) (slice_index l j)) _ refl i n,
      lane_of 0 (λ j. low (number xs j)) _ refl i n,
    ) (written_again (number xs i) (slice_index l i) (h.1 i) (k i n)))
    ∙ sym (eta (pos 0) xs h.0)

-- saved low parts, with upper parts of other accumulators, restore the low parts
pub lows_back : (xs ys : List ℤ) (l : List ℕ) → AreNumbers xs → ((i : ℕ) → i < 8 → slice_index l i < 65536)
    → with_low (with_low xs l) (low_lanes (with_low ys (low_lanes xs))) ≡ xs
lows_back xs ys l h k = ap (with_low (with_low xs l)) (lows_of_written xs ys) ∙ lows_again xs l h k
