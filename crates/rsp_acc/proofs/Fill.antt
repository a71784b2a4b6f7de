-- A loop that writes one number or lane at each turn.
use Rattle.std.proofs.Common.{◌≡◌, ℕ, ◌+◌, ◌^◌, ◌+ℤ◌, ◌-ℤ◌, ◌<◌, List, length, get_or, ℤ, pos, negsuc, to_z, of_z, w64, arith, ◌∙◌, inl, inr}
use Rattle.std.proofs.Math.ListN.{set}
use Rattle.std.proofs.lemmas.List.{get_or-set_same, get_or-set_other}
use Rattle.std.proofs.lemmas.List.Edits.{fill_by_more}
use Rattle.std.proofs.lemmas.Bool.{cases_eq}
use Rattle.std.proofs.lemmas.Int.{ints}
use Rattle.rsp_lanes.specs.Lanes.{each_lane}
use Rattle.rsp_numbers.proofs.Wrap.{s48_is}
use Rattle.rsp_lanes.proofs.Kit.{eta, each_same}
use Rattle.rsp_numbers.specs.Numbers.{number, IsNumber, join, high, middle, modulo}

pub again : (z : ℤ) → IsNumber z → to_z w64 (of_z w64 z) ≡ z
again z h = omega (arith, ints, h.0, h.1)

pub fill : {X : Type 0} (f : ℕ → X) (xs : List X) (i : ℕ) (v d : X) → i < length xs → v ≡ f i → ((k : ℕ) → k < i → get_or xs k d ≡ f k) → (k : ℕ) → k < i + 1 → get_or (set xs i v) k d ≡ f k
fill f xs i v d h e below = rw e (fill_by_more f xs i d h below)

pub numbers_set : (xs : List ℤ) (i : ℕ) (v : ℤ) → i < length xs → IsNumber v → ((k : ℕ) → IsNumber (number xs k)) → (k : ℕ) → IsNumber (number (set xs i v) k)
numbers_set xs i v h n all k =
    elim (cases_eq k i) [
      | inl e ↦ rw (e, get_or-set_same xs i v (pos 0) h) n
      | inr ne ↦ rw (get_or-set_other xs i k v (pos 0) ne) (all k)
    ]

-- a list of eight that is written member by member
pub filled : {X : Type 0} (f : ℕ → X) (d : X) (xs : List X) (i : ℕ) → length xs ≡ 8 → (i < 8 → ⊥) → ((k : ℕ) → k < i → get_or xs k d ≡ f k) → xs ≡ each_lane f
filled f d xs i n stop all = eta d xs n ∙ each_same _ _ (λ k h. all k (omega (arith, stop)))

pub again_sum : (x n : ℤ) → IsNumber x → IsNumber n → to_z w64 (of_z w64 (to_z w64 (of_z w64 x) +ℤ to_z w64 (of_z w64 n))) ≡ x +ℤ n
again_sum x n h k = omega (arith, ints, h.0, h.1, k.0, k.1)

-- the low sixteen bits written over those of z
pub with_low_is : (z : ℤ) (l : ℕ) → IsNumber z → l < 65536 → join (high z) (middle z) l ≡ (z -ℤ pos (modulo z 65536)) +ℤ pos l
unfolding join high middle
with_low_is (pos n) l h k =
    let b : n < 2 ^ 47 = omega (arith, ints, h.1) in
    s48_is _ _ 0 0 (omega (arith, ints)) (omega (arith, ints)) (omega (arith, ints))
with_low_is (negsuc n) l h k =
    let b : n < 2 ^ 47 = omega (arith, ints, h.0) in
    s48_is _ _ 0 1 (omega (arith, ints)) (omega (arith, ints)) (omega (arith, ints))
