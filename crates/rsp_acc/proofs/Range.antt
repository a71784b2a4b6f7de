-- Eight numbers of 48 bits.
use Rattle.std.proofs.Common.{ℕ, ◌+◌, ◌*◌, ◌^◌, ℤ, pos, get_or, List, arith, refl, inl, inr, subst, sym}
use Rattle.std.proofs.lemmas.Int.{ints}
use Rattle.std.proofs.lemmas.Bool.{cases_lt}
use Rattle.std.proofs.lemmas.List.{get_or_past}
use Rattle.rsp_lanes.specs.Lanes.{each_lane}
use Rattle.rsp_lanes.proofs.Kit.{lane_of, length_each}
use Rattle.rsp_numbers.specs.Numbers.{IsNumber, AreNumbers, join}
use Rattle.rsp_numbers.proofs.Wrap.{s48_differs}
use Rattle.rsp_acc.specs.Planes.{joined}

pub join_fits : (h m l : ℕ) → IsNumber (join h m l)
unfolding join
join_fits h m l = let d = s48_differs (pos (h * 2 ^ 32 + m * 2 ^ 16 + l)) in (d.3, d.4)

are_numbers : (f : ℕ → ℤ) → ((i : ℕ) → IsNumber (f i)) → AreNumbers (each_lane f)
are_numbers f h = (
  length_each f,
  λ i. elim (cases_lt i 8) [
    | inl n ↦ subst IsNumber (sym (lane_of (pos 0) f (each_lane f) refl i n)) (h i)
    | inr n ↦ subst IsNumber (sym (get_or_past (each_lane f) i (pos 0) (omega (arith, length_each f)))) (omega (arith, ints), omega (arith, ints))
  ],
)

pub joined_fit : (h m l : List ℕ) → AreNumbers (joined h m l)
joined_fit h m l = are_numbers _ (λ i. join_fits (get_or h i 0) (get_or m i 0) (get_or l i 0))
