-- Numbers of 32 bits, clamped to those of sixteen.
use Rattle.std.proofs.Common.{◌≡◌, ◌∙◌, ℕ, ◌-◌, ◌^◌, ◌<◌, ℤ, pos, negsuc, to_z, of_z, SFits, w16, w32, List, arith, ap, cond, nat_lt}
use Rattle.std.specs.Prelude.{◌≤ℤ◌, ◌<ℤ◌}
use lib.Signed.{lt_z}
use Rattle.std.specs.Simd.Lanes.{top}
use Rattle.std.proofs.lemmas.Int.{ints}
use Rattle.std.proofs.lemmas.Bool.Decides.{nat_tests}
use Rattle.rsp_lanes.specs.Lanes.{each_lane}
use Rattle.rsp_numbers.specs.Numbers.{clamp16, sixteen_bits, number}
use Rattle.rsp_lanes.proofs.Kit.{eta, each_same, lane_of, length_of}
use Rattle.rsp_lanes.proofs.ByteLanes.{bytes_of, lanes_of, lanes_again}
use Rattle.rsp_lanes.proofs.Products.{high_vector}

-- the bits of the greater of two numbers of 32 bits, and of the signed_lesser
abbrev pub greater : ℕ → ℕ → ℕ
greater a b = cond (top 31 (cond (lt_z (to_z w32 a) (to_z w32 b)) 4294967295 0)) b a

abbrev pub signed_lesser : ℕ → ℕ → ℕ
signed_lesser a b = cond (top 31 (cond (lt_z (to_z w32 a) (to_z w32 b)) 4294967295 0)) a b

-- the bits of a number clamped to -32768 .. 32767
abbrev pub saturated : ℤ → ℕ
saturated z = signed_lesser (greater (of_z w32 z) 4294934528) 32767

-- what they are
pub record IsSaturated (z : ℤ) : Type 0 where
  pub fits : SFits w16 (to_z w32 (saturated z))
  pub is : of_z w16 (to_z w32 (saturated z)) ≡ sixteen_bits (clamp16 z)

saturated_pos : (n : ℕ) → n < 2 ^ 31 → to_z w32 (saturated (pos n)) ≡ pos (cond (nat_lt n 32768) n 32767)
saturated_pos n h = grind (arith, ints, nat_tests)

saturated_negsuc : (n : ℕ) → n < 2 ^ 31 → to_z w32 (saturated (negsuc n)) ≡ negsuc (cond (nat_lt n 32768) n 32767)
saturated_negsuc n h = grind (arith, ints, nat_tests)

clamp_pos : (n : ℕ) → clamp16 (pos n) ≡ pos (cond (nat_lt n 32768) n 32767)
unfolding clamp16
clamp_pos n = grind (arith, nat_tests)

clamp_negsuc : (n : ℕ) → clamp16 (negsuc n) ≡ negsuc (cond (nat_lt n 32768) n 32767)
unfolding clamp16
clamp_negsuc n = grind (arith, nat_tests)

small : (n : ℕ) → cond (nat_lt n 32768) n 32767 < 32768
small n = grind (arith, nat_tests)

pub saturated_is : (z : ℤ) → negsuc (2 ^ 31 - 1) ≤ℤ z → z <ℤ pos (2 ^ 31) → IsSaturated z
saturated_is (pos n) least most =
    let s = small n in
    let e = saturated_pos n (omega (arith, ints, most)) in
    record { fits = rw e (record { sfits = s }); is = rw (e, clamp_pos n) (omega (arith, s)) }
saturated_is (negsuc n) least most =
    let s = small n in
    let e = saturated_negsuc n (omega (arith, ints, least)) in
    record { fits = rw e (record { sfits = s }); is = rw (e, clamp_negsuc n) (omega (arith, s)) }

below : (z : ℤ) → sixteen_bits z < 65536
below (pos n) = omega arith
below (negsuc n) = omega arith

-- the lanes of what is clamped and cast
pub saturated_lanes : (z : ℕ → ℤ) → ((i : ℕ) → i < 8 → IsSaturated (z i))
    → lanes_of (bytes_of (each_lane (λ i. of_z w16 (to_z w32 (saturated (z i)))))) ≡ each_lane (λ i. sixteen_bits (clamp16 (z i)))
saturated_lanes z l =
    ap (λ xs. lanes_of (bytes_of xs)) (each_same (λ i. of_z w16 (to_z w32 (saturated (z i)))) (λ i. sixteen_bits (clamp16 (z i))) (λ i h. (l i h).is))
    ∙ lanes_again _ (high_vector (λ i. sixteen_bits (clamp16 (z i))) (λ i. below (clamp16 (z i))))

-- the precondition of `saturated`, for numbers that are made lane by lane
pub record AreMade (xs : List ℤ) (f : ℕ → ℤ) : Type 0 where
  pub is : xs ≡ each_lane f
  pub range : (i : ℕ) → i < 8 → (negsuc (2 ^ 31 - 1) ≤ℤ f i) × (f i <ℤ pos (2 ^ 31))

pub made_lanes : {xs : List ℤ} {f : ℕ → ℤ} → AreMade xs f → xs ≡ each_lane (number xs)
made_lanes {xs} {f} m = eta (pos 0) xs (length_of f xs m.is)

pub made_range : {xs : List ℤ} {f : ℕ → ℤ} → AreMade xs f → (i : ℕ) → i < 8 → (negsuc (2 ^ 31 - 1) ≤ℤ number xs i) × (number xs i <ℤ pos (2 ^ 31))
made_range {xs} {f} m i h = rw (lane_of (pos 0) f xs m.is i h) (m.range i h)
