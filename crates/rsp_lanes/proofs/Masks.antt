-- A mask's lanes, as integers, as bits and as truth values.
use Rattle.std.proofs.Common.{◌≡◌, ℕ, List, length, get_or, map, ◌-◌, ℤ, refl, ap, sym, ◌∙◌, arith, Bool, cond, true, false, ◌&&◌, ◌||◌, not, w16, bit_and, bit_or, bit_xor, nat_eq, ◌^◌, pow_pos}
use mir.Val.{to_z, of_z}
use Rattle.std.proofs.lemmas.List.{length-map}
use Rattle.std.specs.Int.{is_negative}
use Rattle.std.proofs.lemmas.Nat.Bits.{and_pow, bit_at-lt}
use Rattle.std.proofs.lemmas.Bool.Decides.{nat_tests}
use Rattle.std.specs.Simd.Lanes.{top}
use Rattle.rsp_lanes.specs.Lanes.{each_lane, mask_lane, IsMask, truth_values, bool_xor}
use Rattle.rsp_numbers.specs.Numbers.{bit_set}
use Rattle.rsp_lanes.proofs.Kit.{length_of, each_same, map_each, map_of_each}

-- a lane's bits
abbrev pub bits_lane : Bool → ℕ
bits_lane b = cond b 65535 0

pub to_z-bits_lane : (b : Bool) → to_z w16 (bits_lane b) ≡ mask_lane b
to_z-bits_lane true = refl
to_z-bits_lane false = refl

of_z-mask_lane : (b : Bool) → of_z w16 (mask_lane b) ≡ bits_lane b
of_z-mask_lane true = refl
of_z-mask_lane false = refl

negative-mask_lane : (b : Bool) → is_negative (mask_lane b) ≡ b
negative-mask_lane true = refl
negative-mask_lane false = refl

top-bits_lane : (b : Bool) → top 15 (bits_lane b) ≡ b
top-bits_lane true = refl
top-bits_lane false = refl

-- a mask, lane by lane
lanes_are : (p : ℕ → Bool) (bits : List ℕ) → bits ≡ each_lane (λ i. bits_lane (p i)) → map (to_z w16) bits ≡ each_lane (λ i. mask_lane (p i))
lanes_are p bits e = ap (map (to_z w16)) e ∙ map_of_each (to_z w16) (λ i. bits_lane (p i)) ∙ each_same _ _ (λ i h. to_z-bits_lane (p i))

truths_are : (p : ℕ → Bool) (m : List ℤ) → m ≡ each_lane (λ i. mask_lane (p i)) → truth_values m ≡ each_lane p
truths_are p m e = ap truth_values e ∙ map_of_each _ (λ i. mask_lane (p i)) ∙ each_same _ _ (λ i h. negative-mask_lane (p i))

pub made_truths : (p : ℕ → Bool) (bits : List ℕ) → bits ≡ each_lane (λ i. bits_lane (p i)) → truth_values (map (to_z w16) bits) ≡ each_lane p
made_truths p bits e = truths_are p _ (lanes_are p bits e)

pub made_mask : (p : ℕ → Bool) (bits : List ℕ) → bits ≡ each_lane (λ i. bits_lane (p i)) → IsMask (map (to_z w16) bits)
made_mask p bits e = (
  length_of _ _ (lanes_are p bits e),
  ap (map mask_lane) (made_truths p bits e) ∙ map_of_each mask_lane p ∙ sym (lanes_are p bits e),
)

-- the bits of a mask
pub mask_bits : (m : List ℤ) → IsMask m → map (of_z w16) m ≡ each_lane (λ i. bits_lane (get_or (truth_values m) i false))
mask_bits m h =
    let n : length (truth_values m) ≡ 8 = length-map m _ ∙ h.0 in
    ap (map (of_z w16)) (sym h.1 ∙ map_each mask_lane false (truth_values m) n) ∙ map_of_each (of_z w16) _ ∙ each_same _ _ (λ i l. of_z-mask_lane (get_or (truth_values m) i false))

pub mask_tops : (m : List ℤ) → IsMask m → map (top 15) (map (of_z w16) m) ≡ each_lane (λ i. get_or (truth_values m) i false)
mask_tops m h = ap (map (top 15)) (mask_bits m h) ∙ map_of_each (top 15) _ ∙ each_same _ _ (λ i l. top-bits_lane (get_or (truth_values m) i false))

-- from the bits and back
pub mask_again : (m : List ℤ) → IsMask m → map (to_z w16) (map (of_z w16) m) ≡ m
mask_again m h =
    let n : length (truth_values m) ≡ 8 = length-map m _ ∙ h.0 in
    lanes_are _ _ (mask_bits m h) ∙ sym (map_each mask_lane false (truth_values m) n) ∙ h.1

pub bits-and : (p q : Bool) → bit_and (bits_lane p) (bits_lane q) ≡ bits_lane (p && q)
bits-and true true = refl
bits-and true false = refl
bits-and false true = refl
bits-and false false = refl

pub bits-or : (p q : Bool) → bit_or (bits_lane p) (bits_lane q) ≡ bits_lane (p || q)
bits-or true true = refl
bits-or true false = refl
bits-or false true = refl
bits-or false false = refl

pub bits-not : (p : Bool) → 65535 - bits_lane p ≡ bits_lane (not p)
bits-not true = refl
bits-not false = refl

pub bits-xor : (p q : Bool) → bit_xor (bits_lane p) (bits_lane q) ≡ bits_lane (bool_xor p q)
bits-xor true true = refl
bits-xor true false = refl
bits-xor false true = refl
bits-xor false false = refl

pub length-truths : (m : List ℤ) → IsMask m → length (truth_values m) ≡ 8
length-truths m h = length-map m _ ∙ h.0

-- a number with bit k alone isn't 0 exactly if that bit is set
pub bit_test : (n k : ℕ) → not (nat_eq (bit_and n (2 ^ k)) 0) ≡ bit_set n k
bit_test n k = rw (and_pow n k) (grind (arith, nat_tests, bit_at-lt, pow_pos))
