-- Products of signed lanes, in lanes of 32 bits.
use Rattle.std.proofs.Common.{◌≡◌, ◌∙◌, ℕ, suc, ◌-◌, ◌*◌, ◌/◌, ◌^◌, ◌<◌, ◌≤◌, ℤ, pos, negsuc, ◌*ℤ◌, to_z, of_z, SFits, w16, w32, List, get_or, arith, refl, ap, inl, inr, cond, nat_lt}
use Rattle.std.specs.Prelude.{◌≤ℤ◌, ◌<ℤ◌}
use Rattle.std.proofs.lemmas.Int.{ints}
use Rattle.std.proofs.lemmas.Bool.{cases_lt, le-ltb, lt-ltb}
use Rattle.std.proofs.lemmas.Bool.Decides.{nat_tests}
use Rattle.std.proofs.Math.Nat.{mul-le-mul}
use Rattle.std.proofs.Math.Facts.{of_z-to_z, Fits-of_lt}
use Rattle.std.specs.Int.{int_div_euclid}
use lib.Signed.{shr_z}
use Rattle.rsp_lanes.specs.Lanes.{each_lane, IsVector}
use Rattle.rsp_numbers.specs.Numbers.{upper_bits, sixteen_bits}
use Rattle.std.proofs.lemmas.List.{get_or_past}
use Rattle.rsp_lanes.proofs.Kit.{each_same, lane_of, length_each}
use Rattle.rsp_lanes.proofs.ByteLanes.{bytes_of, lanes_of, lanes_again}

-- a signed value, with its range
pub record InRange (z : ℤ) : Type 0 where
  pub least : negsuc 32767 ≤ℤ z
  pub most : z <ℤ pos 32768

pub reading : (a : ℕ) → a < 65536 → InRange (to_z w16 a)
reading a h = elim (cases_lt a 32768) [
  | inl n ↦
      let e : to_z w16 a ≡ pos a = omega (arith, ints) in
      rw e (record { least = omega (arith, ints); most = omega (arith, ints) })
  | inr n ↦
      let e : to_z w16 a ≡ negsuc (65535 - a) = rw (le-ltb a 32768 n) (ap negsuc (omega arith)) in
      rw e (record { least = omega (arith, ints); most = omega (arith, ints) })
]

-- a product of two
pub record IsProduct (z : ℤ) : Type 0 where
  pub least : negsuc (2 ^ 30 - 1) ≤ℤ z
  pub most : z ≤ℤ pos (2 ^ 30)

pub product_range : (x y : ℤ) → InRange x → InRange y → IsProduct (x *ℤ y)
product_range (pos m) (pos n) h k =
    let u : m ≤ 32768 = omega (arith, ints, h.most) in
    let v : n ≤ 32768 = omega (arith, ints, k.most) in
    let p : m * n ≤ 32768 * 32768 = mul-le-mul u v in
    record { least = omega (arith, ints, p); most = omega (arith, ints, p) }
product_range (pos m) (negsuc n) h k =
    let u : m ≤ 32767 = omega (arith, ints, h.most) in
    let v : suc n ≤ 32768 = omega (arith, ints, k.least) in
    let p : m * suc n ≤ 32767 * 32768 = mul-le-mul u v in
    record { least = omega (arith, ints, p); most = omega (arith, ints, p) }
product_range (negsuc m) (pos n) h k =
    let u : suc m ≤ 32768 = omega (arith, ints, h.least) in
    let v : n ≤ 32767 = omega (arith, ints, k.most) in
    let p : suc m * n ≤ 32768 * 32767 = mul-le-mul u v in
    record { least = omega (arith, ints, p); most = omega (arith, ints, p) }
product_range (negsuc m) (negsuc n) h k =
    let u : suc m ≤ 32768 = omega (arith, ints, h.least) in
    let v : suc n ≤ 32768 = omega (arith, ints, k.least) in
    let p : suc m * suc n ≤ 32768 * 32768 = mul-le-mul u v in
    record { least = omega (arith, ints, p); most = omega (arith, ints, p) }

-- 32 bits hold a number
pub again_32 : (z : ℤ) → negsuc (2 ^ 31 - 1) ≤ℤ z → z <ℤ pos (2 ^ 31) → to_z w32 (of_z w32 z) ≡ z
again_32 z low high = omega (arith, ints)

fits_32 : (z : ℤ) → negsuc (2 ^ 31 - 1) ≤ℤ z → z <ℤ pos (2 ^ 31) → SFits w32 z
fits_32 (pos n) low high = record { sfits = omega (arith, ints) }
fits_32 (negsuc n) low high = record { sfits = omega (arith, ints) }

fits_16 : (z : ℤ) → InRange z → SFits w16 z
fits_16 (pos n) r = record { sfits = omega (arith, ints, r.most) }
fits_16 (negsuc n) r = record { sfits = omega (arith, ints, r.least) }

-- a signed lane after the cast to 32 bits
abbrev pub wide : ℕ → ℤ
wide a = to_z w32 (of_z w32 (to_z w16 (of_z w16 (to_z w16 a))))

pub wide_is : (a : ℕ) → a < 65536 → wide a ≡ to_z w16 a
wide_is a h =
    let r = reading a h in
    ap (λ n. to_z w32 (of_z w32 (to_z w16 n))) (of_z-to_z {w = w16} (Fits-of_lt h)) ∙ again_32 (to_z w16 a) (omega (arith, ints, r.least)) (omega (arith, ints, r.most))

pub product_fits : (a b : ℕ) → a < 65536 → b < 65536 → SFits w32 (wide a *ℤ wide b)
product_fits a b h k =
    let p = product_range _ _ (reading a h) (reading b k) in
    rw (wide_is a h, wide_is b k) (fits_32 _ (omega (arith, ints, p.least)) (omega (arith, ints, p.most)))

-- their product in 32 bits, shifted down
abbrev pub shifted : ℕ → ℕ → ℤ
shifted a b = to_z w32 (of_z w32 (shr_z (to_z w32 (of_z w32 (wide a *ℤ wide b))) 65536))

-- a shift to the right is a division, and leaves sixteen bits of a product
record Shifted (z : ℤ) : Type 0 where
  is : to_z w32 (of_z w32 (shr_z z 65536)) ≡ int_div_euclid z (pos 65536)
  range : InRange (int_div_euclid z (pos 65536))

shift : (z : ℤ) → IsProduct z → Shifted z
shift (pos n) p =
    let b : n ≤ 2 ^ 30 = omega (arith, ints, p.most) in
    record { is = again_32 (pos (n / 65536)) (omega (arith, ints)) (omega (arith, ints)); range = record { least = omega (arith, ints); most = omega (arith, ints) } }
shift (negsuc n) p =
    let b : n < 2 ^ 30 = omega (arith, ints, p.least) in
    record { is = again_32 (negsuc (n / 65536)) (omega (arith, ints)) (omega (arith, ints)); range = record { least = omega (arith, ints); most = omega (arith, ints) } }

module _ (a b : ℕ) (h : a < 65536) (k : b < 65536) where
  product : IsProduct (to_z w16 a *ℤ to_z w16 b)
  product = product_range _ _ (reading a h) (reading b k)

  shifted_is : shifted a b ≡ int_div_euclid (to_z w16 a *ℤ to_z w16 b) (pos 65536)
  shifted_is =
      rw (wide_is a h, wide_is b k, again_32 (to_z w16 a *ℤ to_z w16 b) (let p = product.least in omega (arith, ints, p)) (let p = product.most in omega (arith, ints, p)))
      (shift _ product).is

  pub shifted_fits : SFits w16 (shifted a b)
  shifted_fits = rw shifted_is (fits_16 _ (shift _ product).range)

  pub high_is : of_z w16 (shifted a b) ≡ upper_bits (to_z w16 a *ℤ to_z w16 b)
  high_is = rw shifted_is (sixteen (int_div_euclid (to_z w16 a *ℤ to_z w16 b) (pos 65536)) (shift _ product).range)
    where
      sixteen : (z : ℤ) → InRange z → of_z w16 z ≡ sixteen_bits z
      sixteen (pos n) r = omega (arith, ints, r.most)
      sixteen (negsuc n) r = omega (arith, ints, r.least)

pub high_vector : (f : ℕ → ℕ) → ((i : ℕ) → f i < 65536) → IsVector (each_lane f)
high_vector f h = (
  length_each f,
  λ i. elim (cases_lt i 8) [
    | inl n ↦ rw (lane_of 0 f (each_lane f) refl i n) (h i)
    | inr n ↦ rw (get_or_past (each_lane f) i 0 (omega (arith, length_each f))) (omega arith)
  ],
)

bits_below : (z : ℤ) → upper_bits z < 65536
bits_below (pos n) = omega arith
bits_below (negsuc n) = omega arith

-- the high halves, from the bytes of the lanes that were cast back
pub high_lanes : (v w : List ℕ) → ((i : ℕ) → get_or v i 0 < 65536) → ((i : ℕ) → get_or w i 0 < 65536)
    → lanes_of (bytes_of (each_lane (λ i. of_z w16 (shifted (get_or v i 0) (get_or w i 0))))) ≡ each_lane (λ i. upper_bits (to_z w16 (get_or v i 0) *ℤ to_z w16 (get_or w i 0)))
high_lanes v w h k =
    let e = each_same (λ i. of_z w16 (shifted (get_or v i 0) (get_or w i 0))) (λ i. upper_bits (to_z w16 (get_or v i 0) *ℤ to_z w16 (get_or w i 0))) (λ i l. high_is _ _ (h i) (k i)) in
    ap (λ l. lanes_of (bytes_of l)) e ∙ lanes_again _ (high_vector _ (λ i. bits_below (to_z w16 (get_or v i 0) *ℤ to_z w16 (get_or w i 0))))

-- a signed lane shifted down to its sign
abbrev pub sign_bits : ℕ → ℕ
sign_bits a = of_z w16 (shr_z (to_z w16 (of_z w16 (to_z w16 a))) 32768)

sign_is : (a : ℕ) → a < 65536 → sign_bits a ≡ cond (nat_lt 32767 a) 65535 0
sign_is a h = ap (λ n. of_z w16 (shr_z (to_z w16 n) 32768)) (of_z-to_z {w = w16} (Fits-of_lt h)) ∙ elim (cases_lt a 32768) [
  | inl n ↦
      let e : to_z w16 a ≡ pos a = omega (arith, ints) in
      rw (e, le-ltb 32767 a (omega arith)) (omega arith)
  | inr n ↦
      let e : to_z w16 a ≡ negsuc (65535 - a) = rw (le-ltb a 32768 n) (ap negsuc (omega arith)) in
      rw (e, lt-ltb 32767 a (omega arith)) (omega arith)
]

sign_below : (a : ℕ) → cond (nat_lt 32767 a) 65535 0 < 65536
sign_below a = grind (arith, nat_tests)

pub sign_lanes : (v : List ℕ) → ((i : ℕ) → get_or v i 0 < 65536)
    → lanes_of (bytes_of (each_lane (λ i. sign_bits (get_or v i 0)))) ≡ each_lane (λ i. cond (nat_lt 32767 (get_or v i 0)) 65535 0)
sign_lanes v h =
    let e = each_same (λ i. sign_bits (get_or v i 0)) (λ i. cond (nat_lt 32767 (get_or v i 0)) 65535 0) (λ i l. sign_is _ (h i)) in
    ap (λ l. lanes_of (bytes_of l)) e ∙ lanes_again _ (high_vector _ (λ i. sign_below (get_or v i 0)))
