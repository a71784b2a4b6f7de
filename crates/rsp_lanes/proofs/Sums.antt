-- Lanes as signed numbers of 32 bits, the greater and the lesser of two, and their sums.
use Rattle.std.proofs.Common.{◌≡◌, ◌∙◌, ℕ, zero, suc, ◌+◌, ◌-◌, ◌%◌, ◌^◌, ◌<◌, ◌≤◌, ℤ, pos, negsuc, ◌+ℤ◌, to_z, of_z, w16, w32, Bool, true, false, List, map, get_or, cond, arith, refl, ap, inl, inr}
use Rattle.std.specs.Prelude.{◌≤ℤ◌, ◌<ℤ◌}
use lib.Signed.{lt_z}
use Rattle.std.specs.Simd.Lanes.{top, zip2}
use Rattle.std.specs.Int.{int_min, int_max}
use Rattle.std.proofs.lemmas.Int.{ints, clamps}
use Rattle.std.proofs.lemmas.Bool.{cases_lt, le-ltb}
use Rattle.std.proofs.lemmas.Bool.Decides.{nat_tests}
use Rattle.std.proofs.Math.Facts.{of_z-to_z, Fits-of_lt}
use Rattle.rsp_numbers.specs.Numbers.{clamp16}
use Rattle.rsp_lanes.specs.Lanes.{each_lane, bit, IsVector}
use Rattle.rsp_lanes.proofs.Kit.{each_same}
use Rattle.rsp_lanes.proofs.ByteLanes.{bytes_of, lanes_of, lanes_again}
use Rattle.rsp_lanes.proofs.Saturation.{AreMade}
use Rattle.rsp_lanes.proofs.Products.{InRange, again_32, high_vector, reading}

-- sixteen bits as a signed value, in 32 bits
abbrev pub widened : ℕ → ℤ
widened n = to_z w32 (of_z w32 (to_z w16 n))

pub widened_is : (n : ℕ) → n < 65536 → widened n ≡ to_z w16 n
widened_is n h =
    let r = reading n h in
    again_32 (to_z w16 n) (omega (arith, ints, r.least)) (omega (arith, ints, r.most))

-- the bits of a lane that is read as a signed value
abbrev again : ℕ → ℕ
again n = of_z w16 (to_z w16 n)

again_is : (n : ℕ) → n < 65536 → again n ≡ n
again_is n h = of_z-to_z {w = w16} (Fits-of_lt h)

-- if the first of two lanes is below the other
abbrev is_below : ℕ → ℕ → Bool
is_below a b = top 15 (cond (lt_z (to_z w16 a) (to_z w16 b)) 65535 0)

-- the bits of the lesser of two lanes, and the greater one
abbrev pub lesser : ℕ → ℕ → ℕ
lesser a b = cond (is_below a b) a b

abbrev pub greater : ℕ → ℕ → ℤ
greater a b = widened (cond (is_below (again a) (again b)) (again b) (again a))

taken : (c : Bool) (a b : ℕ) → a < 65536 → b < 65536 → widened (cond c a b) ≡ cond c (to_z w16 a) (to_z w16 b)
taken true a b h k = widened_is a h
taken false a b h k = widened_is b k

least : (x y : ℤ) → cond (top 15 (cond (lt_z x y) 65535 0)) x y ≡ int_min x y
least (pos a) (pos b) = grind (arith, nat_tests)
least (pos a) (negsuc b) = refl
least (negsuc a) (pos b) = refl
least (negsuc a) (negsuc b) = grind (arith, nat_tests)

most : (x y : ℤ) → cond (top 15 (cond (lt_z x y) 65535 0)) y x ≡ int_max x y
most (pos a) (pos b) = grind (arith, nat_tests)
most (pos a) (negsuc b) = refl
most (negsuc a) (pos b) = refl
most (negsuc a) (negsuc b) = grind (arith, nat_tests)

read : (c : Bool) (a b : ℕ) → to_z w16 (cond c a b) ≡ cond c (to_z w16 a) (to_z w16 b)
read true a b = refl
read false a b = refl

lesser_is : (a b : ℕ) → to_z w16 (lesser a b) ≡ int_min (to_z w16 a) (to_z w16 b)
lesser_is a b = read (is_below a b) a b ∙ least (to_z w16 a) (to_z w16 b)

lesser_below : (c : Bool) (a b : ℕ) → a < 65536 → b < 65536 → cond c a b < 65536
lesser_below true a b h k = h
lesser_below false a b h k = k

lane_32766 : 32766 < 65536
lane_32766 = omega arith

-- the lesser of two lanes and of 32766
abbrev pub lesser_still : ℕ → ℕ → ℕ
lesser_still a b = lesser (lesser a b) 32766

pub lesser_still_is : (a b : ℕ) → to_z w16 (lesser_still a b) ≡ int_min (int_min (to_z w16 a) (to_z w16 b)) (pos 32766)
lesser_still_is a b = lesser_is (lesser a b) 32766 ∙ ap (λ z. int_min z (pos 32766)) (lesser_is a b)

pub lesser_lanes : (a b : List ℕ) → IsVector a → IsVector b
    → lanes_of (bytes_of (each_lane (λ i. lesser_still (again (get_or a i 0)) (again (get_or b i 0))))) ≡ each_lane (λ i. lesser_still (get_or a i 0) (get_or b i 0))
lesser_lanes a b u v =
    let e = each_same (λ i. lesser_still (again (get_or a i 0)) (again (get_or b i 0))) (λ i. lesser_still (get_or a i 0) (get_or b i 0)) (λ i h. rw (again_is _ (u.1 i), again_is _ (v.1 i)) refl) in
    ap (λ l. lanes_of (bytes_of l)) e ∙ lanes_again _ (high_vector _ (λ i. lesser_below _ _ _ (lesser_below _ _ _ (u.1 i) (v.1 i)) lane_32766))

pub greater_is : (a b : ℕ) → a < 65536 → b < 65536 → greater a b ≡ int_max (to_z w16 a) (to_z w16 b)
greater_is a b h k = rw (again_is a h, again_is b k) (taken _ b a k h ∙ most (to_z w16 a) (to_z w16 b))

-- the number that has the bits n, modulo 2^32
modulo_32 : (n : ℕ) (z : ℤ) → negsuc (2 ^ 31 - 1) ≤ℤ z → z <ℤ pos (2 ^ 31) → pos n ≡ z +ℤ pos (2 ^ 32) → to_z w32 (n % 2 ^ 32) ≡ z
modulo_32 n (pos m) l h e =
    let f : n ≡ m + 2 ^ 32 = omega (arith, ints, e) in
    let b : m < 2 ^ 31 = omega (arith, ints, h) in
    let g : n % 2 ^ 32 ≡ m = omega arith in
    rw g (again_32 (pos m) l h)
modulo_32 n (negsuc m) l h e =
    let f : n + suc m ≡ 2 ^ 32 = omega (arith, ints, e) in
    let g : n % 2 ^ 32 ≡ 2 ^ 32 - suc m = omega arith in
    rw g (again_32 (negsuc m) l h)

-- sums of two 16-bit numbers, in 32 bits
sum_is : (x y : ℤ) → InRange x → InRange y → to_z w32 ((of_z w32 x + of_z w32 y) % 2 ^ 32) ≡ x +ℤ y
sum_is (pos x) (pos y) r s = omega (arith, ints, r.most, s.most)
sum_is (pos x) (negsuc y) r s = modulo_32 (x + (2 ^ 32 - suc y)) _ (omega (arith, ints, s.least)) (omega (arith, ints, r.most)) (omega (arith, ints, s.least))
sum_is (negsuc x) (pos y) r s = modulo_32 (2 ^ 32 - suc x + y) _ (omega (arith, ints, r.least)) (omega (arith, ints, s.most)) (omega (arith, ints, r.least))
sum_is (negsuc x) (negsuc y) r s =
    let e : (2 ^ 32 - suc x + (2 ^ 32 - suc y)) % 2 ^ 32 ≡ 2 ^ 32 - suc (suc (x + y)) = omega (arith, ints, r.least, s.least) in
    rw e (again_32 (negsuc (suc (x + y))) (omega (arith, ints, r.least, s.least)) (omega (arith, ints)))

greater_range : (x y : ℤ) → InRange x → InRange y → InRange (int_max x y)
greater_range x y r s = record { least = omega (arith, ints, clamps, r.least, s.least); most = omega (arith, ints, clamps, r.most, s.most) }

module _ (xs ys : List ℤ) (x y : ℕ → ℤ) (d : xs ≡ each_lane x) (e : ys ≡ each_lane y) (r : (i : ℕ) → InRange (x i)) (s : (i : ℕ) → InRange (y i)) where
  sums_are : AreMade (map (to_z w32) (zip2 (λ a b. (a + b) % 2 ^ 32) (map (of_z w32) xs) (map (of_z w32) ys))) (λ i. x i +ℤ y i)
  unfolding each_lane
  sums_are = record {
    is = rw (d, e) (each_same (λ i. to_z w32 ((of_z w32 (x i) + of_z w32 (y i)) % 2 ^ 32)) (λ i. x i +ℤ y i) (λ i h. sum_is _ _ (r i) (s i)));
    range = λ i h. let u = r i in let v = s i in (omega (arith, ints, u.least, v.least), omega (arith, ints, u.most, v.most));
  }

module _ (a b k : List ℕ) (xs ys : List ℤ) (u : IsVector a) (v : IsVector b) (w : IsVector k) where
  pub greater_more : xs ≡ each_lane (λ i. int_max (to_z w16 (get_or a i 0)) (to_z w16 (get_or b i 0))) → ys ≡ each_lane (λ i. to_z w16 (get_or k i 0))
      → AreMade (map (to_z w32) (zip2 (λ a b. (a + b) % 2 ^ 32) (map (of_z w32) xs) (map (of_z w32) ys))) (λ i. int_max (to_z w16 (get_or a i 0)) (to_z w16 (get_or b i 0)) +ℤ to_z w16 (get_or k i 0))
  greater_more d e = sums_are xs ys _ _ d e (λ i. greater_range _ _ (reading _ (u.1 i)) (reading _ (v.1 i))) (λ i. reading _ (w.1 i))

negative : (n : ℕ) → 32768 ≤ n → to_z w16 n ≡ negsuc (65535 - n)
negative n h = rw (le-ltb n 32768 h) (ap negsuc (omega arith))

one_more : (k n : ℕ) → k < 32768 → k + n ≡ 65535 → to_z w16 ((n + 1) % 65536) ≡ negsuc k +ℤ pos 1
one_more zero n h e =
    let f : (n + 1) % 65536 ≡ 0 = omega arith in
    rw f refl
one_more (suc k) n h e =
    let f : (n + 1) % 65536 ≡ n + 1 = omega arith in
    let g : 65535 - (n + 1) ≡ k = omega arith in
    rw (f, negative (n + 1) (omega arith), g) (omega (arith, ints))

-- a carry that is added to a lane below 32767
with_carry : (n : ℕ) (c : Bool) → n < 65536 → to_z w16 n ≤ℤ pos 32766 → to_z w16 ((n + (65536 - cond c 65535 0)) % 65536) ≡ to_z w16 n +ℤ pos (bit c)
with_carry n false h k =
    let e : (n + 65536) % 65536 ≡ n = omega arith in
    rw e (omega (arith, ints))
with_carry n true h k = elim (cases_lt n 32768) [
  | inl m ↦
      let e : to_z w16 n ≡ pos n = omega (arith, ints) in
      let f : n ≤ 32766 = omega (arith, ints, e, k) in
      let g : (n + 1) % 65536 ≡ n + 1 = omega arith in
      rw (e, g) (omega (arith, ints))
  | inr m ↦ rw (negative n m) (one_more (65535 - n) n (omega arith) (omega arith))
]

clamped : (x y z : ℤ) (c : Bool) → InRange x → InRange y → z ≡ int_min (int_min x y) (pos 32766) +ℤ pos (bit c)
    → clamp16 (int_max x y +ℤ z) ≡ clamp16 (x +ℤ y +ℤ pos (bit c))
unfolding clamp16
clamped x y z true r s e = omega (arith, ints, clamps, e, r.least, r.most, s.least, s.most)
clamped x y z false r s e = omega (arith, ints, clamps, e, r.least, r.most, s.least, s.most)

-- adding the carry to the lesser is adding it to the sum
pub carried : (a b n : ℕ) (c : Bool) → a < 65536 → b < 65536 → n < 65536 → to_z w16 n ≡ int_min (int_min (to_z w16 a) (to_z w16 b)) (pos 32766)
    → clamp16 (int_max (to_z w16 a) (to_z w16 b) +ℤ to_z w16 ((n + (65536 - cond c 65535 0)) % 65536)) ≡ clamp16 (to_z w16 a +ℤ to_z w16 b +ℤ pos (bit c))
carried a b n c h k l e = clamped _ _ _ c (reading a h) (reading b k) (with_carry n c l (omega (arith, ints, clamps, e)) ∙ ap (λ z. z +ℤ pos (bit c)) e)
