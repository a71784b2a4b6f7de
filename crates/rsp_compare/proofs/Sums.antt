-- Sums and differences of signed values, by numbers that are 32768 too great.
use Rattle.std.proofs.Common.{◌≡◌, ℕ, suc, ◌+◌, ◌-◌, ◌%◌, ◌<◌, ◌≤◌, ℤ, pos, negsuc, ◌+ℤ◌, Bool, true, false, cond, not, ◌&&◌, nat_lt, nat_eq, arith, refl, sym, ◌∙◌, inl, inr}
use Rattle.std.specs.Prelude.{◌-ℤ◌}
use Rattle.std.proofs.lemmas.Int.{ints}
use Rattle.std.proofs.lemmas.Bool.{le-ltb, lt-ltb, cases_lt}
use Rattle.std.proofs.lemmas.Bool.Decides.{nat_tests}
use Rattle.rsp_lanes.specs.Lanes.{bit}
use Rattle.rsp_numbers.specs.Numbers.{s16, sixteen_bits, complement, negated}
use Rattle.rsp_lanes.specs.Flags.{LaneFlags}
use Rattle.rsp_lanes.specs.Outcome.{Outcome, plain}
use Rattle.rsp_compare.specs.Adds.{vabs}
use Rattle.rsp_compare.proofs.Comparisons.{by_sign, below_zero, is_zero, is_least}

-- the signed value and the number that is 32768 too great
biased : (a : ℕ) → a < 65536 → s16 a +ℤ pos 32768 ≡ pos ((a + 32768) % 65536)
biased a h = by_sign (λ t z. z +ℤ pos 32768 ≡ pos ((a + 32768) % 65536)) a h (λ n. omega (arith, ints)) (λ n. omega (arith, ints))

-- n is t - 65536
sixteen_bits_of : (n : ℤ) (t : ℕ) → n +ℤ pos 65536 ≡ pos t → t < 131072 → sixteen_bits n ≡ t % 65536
sixteen_bits_of (pos n) t e h = let f : n + 65536 ≡ t = omega (arith, ints) in omega arith
sixteen_bits_of (negsuc n) t e h = let f : 65536 ≡ t + suc n = omega (arith, ints) in omega arith

sum_is : (a b : ℕ) (c : Bool) → a < 65536 → b < 65536 → (s16 a +ℤ s16 b +ℤ pos (bit c)) +ℤ pos 65536 ≡ pos ((a + 32768) % 65536 + (b + 32768) % 65536 + bit c)
sum_is a b c h k = omega (arith, ints, biased a h, biased b k)

sum_small : (a b : ℕ) (c : Bool) → (a + 32768) % 65536 + (b + 32768) % 65536 + bit c < 131072
sum_small a b true = omega arith
sum_small a b false = omega arith

pub sum_bits : (a b : ℕ) (c : Bool) → a < 65536 → b < 65536 → (a + b + bit c) % 65536 ≡ sixteen_bits (s16 a +ℤ s16 b +ℤ pos (bit c))
sum_bits a b c h k =
    let e : (a + b + bit c) % 65536 ≡ ((a + 32768) % 65536 + (b + 32768) % 65536 + bit c) % 65536 = omega arith in
    e ∙ sym (sixteen_bits_of _ _ (sum_is a b c h k) (sum_small a b c))

-- a difference less a carry is the sum with the complement, and 1 more if the carry is clear
of_complement : (b : ℕ) → b < 65536 → s16 (complement b) +ℤ s16 b +ℤ pos 1 ≡ pos 0
of_complement b h = omega (arith, ints, biased b h, biased (complement b) (omega arith))

pub difference : (a b : ℕ) (c : Bool) → b < 65536 → s16 a +ℤ s16 (complement b) +ℤ pos (bit (not c)) ≡ s16 a -ℤ s16 b -ℤ pos (bit c)
difference a b true h = omega (arith, ints, of_complement b h)
difference a b false h = omega (arith, ints, of_complement b h)

pub difference_bits : (a b : ℕ) → a < 65536 → b < 65536 → (a + (65536 - b)) % 65536 ≡ sixteen_bits (pos a -ℤ pos b)
difference_bits a b h k = sym (sixteen_bits_of (pos a -ℤ pos b) (a + (65536 - b)) (omega (arith, ints)) (omega arith))

-- what the code computes for VABS
abbrev pub abs_low : ℕ → ℕ → ℕ
abs_low a b = cond (nat_eq a 0) 0 (cond (nat_lt 32767 a) (negated b) b)

abbrev pub abs_computed : ℕ → ℕ → LaneFlags → Outcome
abs_computed a b f = record { result = cond (nat_lt 32767 a && nat_eq b 32768) 32767 (abs_low a b); low = abs_low a b; flags = f }

not_zero : (a : ℕ) → 0 < a → nat_eq a 0 ≡ false
not_zero a h = grind (arith, nat_tests)

-- the second case: a is negative
abs_negative : (a b : ℕ) (least : Bool) (f : LaneFlags) → least ≡ nat_eq b 32768 → 32768 ≤ a → b < 65536
    → cond least (record { result = 32767; low = 32768; flags = f }) (plain (negated b) f)
    ≡ record { result = cond least 32767 (cond (nat_eq a 0) 0 (negated b)); low = cond (nat_eq a 0) 0 (negated b); flags = f }
abs_negative a b true f e h k =
    let m : b ≡ 32768 = grind (arith, nat_tests) in
    rw (m, not_zero a (omega arith)) refl
abs_negative a b false f e h k = rw (not_zero a (omega arith)) refl

pub abs_is : (a b : ℕ) (f : LaneFlags) → a < 65536 → b < 65536 → vabs a b f ≡ abs_computed a b f
abs_is a b f h k = rw (is_zero a h, is_least b k, below_zero a h) (elim (cases_lt a 32768) [
  | inl n ↦ rw (le-ltb 32767 a (omega arith)) refl
  | inr n ↦ rw (lt-ltb 32767 a (omega arith)) (abs_negative a b _ f refl n k)
])
