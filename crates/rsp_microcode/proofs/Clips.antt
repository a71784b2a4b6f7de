-- Clip codes.
use Rattle.std.proofs.Common.{◌≡◌, ◌≢◌, ℕ, ◌+◌, ◌-◌, ◌*◌, ◌/◌, ◌%◌, ◌^◌, ◌<◌, ◌≤◌, ◌&&◌, ◌||◌, ℤ, pos, negsuc, ◌+ℤ◌, List, length, cond, get_or, subst, Bool, true, false, not, nat_lt, nat_le, nat_eq, refl, ap, sym, ◌∙◌, arith, inl, inr}
use Rattle.std.specs.Prelude.{◌==◌, ◌-ℤ◌, int_lt, int_le, if◌then◌else◌}
use Rattle.std.proofs.lemmas.Int.{ints}
use Rattle.std.proofs.Math.IntN.{+ℤ_comm}
use Rattle.std.proofs.lemmas.Bool.{cases_lt, lt-leb, le-leb, le-ltb, and_parts, ltb-true}
use Rattle.std.specs.Ordering.{int_eq}
use Rattle.std.proofs.lemmas.Bool.Decides.{nat_tests}
use Rattle.std.specs.Simd.Lanes.{mask_l}
use Rattle.std.specs.Int.{w16}
use Rattle.std.proofs.lemmas.Simd.{mask_l-lt, bit_mask_l}
use Rattle.rsp_numbers.specs.Numbers.{bit_set, modulo, sign_extended, s16, s32}
use Rattle.rsp_numbers.proofs.Signed.{s16_small, s16_large, s32_small, s32_large}
use Rattle.rsp_lanes.specs.Lanes.{bool_xor, selected, source_lane}
use Rattle.rsp_lanes.specs.Flags.{LaneFlags, flags_at}
use Rattle.rsp_lanes.specs.declared.flags.Flags.{Flags}
use Rattle.rsp_lanes.specs.Outcome.{Outcome, outcome_at, flags_after}
use Rattle.rsp_lanes.proofs.FlagLanes.{flags_of, all_same}
use Rattle.rsp_compare.specs.Clips.{signs_differ, compare_flags, vch_signs_differ, vch_signs_agree, vch, vcl}
use Rattle.rsp_decode.specs.declared.inst.Inst.TheVariants.{VectorClip}
use Rattle.rsp_decode.specs.declared.vector.VectorClipOp.TheVariants.{Vch}
use Rattle.rsp_decode.specs.declared.fields.VectorFields.{VectorFields}
use Rattle.rsp_loadstore.specs.File.{vector}
use Rattle.rsp_machine.specs.State.{State}
use Rattle.rsp_machine.specs.Step.{executed, instruction_effect}
use Rattle.rsp_machine.specs.Vector.{ruled}
use Rattle.rsp_microcode.specs.Clips.{is_below, is_above, codes_of, numbers_of, bounds_of, high_result, high_flags, ClipCodes, CodeBits, clipped, ClipsRun}
use Rattle.rsp_microcode.proofs.Multiplies.{read_other}
use Rattle.rsp_lanes.proofs.Kit.{below_eight, lane_of, length_each}
use Rattle.rsp_microcode.proofs.Fixed.{picked}

-- the flags of a lane after both
abbrev after_both : ℕ → ℕ → ℕ → ℕ → LaneFlags → LaneFlags
after_both a b c d f = (vcl c d (vch a b f).flags).flags

-- a and c are the halves of x, and b and d those of w
abbrev Codes : ℕ → ℕ → ℕ → ℕ → LaneFlags → Type 0
Codes a b c d f = after_both a b c d f ≡ compare_flags (is_below (s32 (a * 65536 + c)) (s32 (b * 65536 + d))) (is_above (s32 (a * 65536 + c)) (s32 (b * 65536 + d)))

-- the flags after VCH by the signed numbers: n is their difference if the signs agree, else their sum
abbrev agree : ℤ → Bool → LaneFlags
agree n s = record { carry = false; differ = not (int_eq n (pos 0)); compare = s; clip = int_le (pos 0) n; extra = false }

abbrev apart : ℤ → Bool → LaneFlags
apart n s = record { carry = true; differ = not (int_eq n (pos 0)) && not (int_eq n (negsuc 0)); compare = int_le n (pos 0); clip = s; extra = int_eq n (negsuc 0) }

abbrev first_of : ℤ → ℤ → LaneFlags
first_of x y = if bool_xor (int_lt x (pos 0)) (int_lt y (pos 0)) then apart (x +ℤ y) (int_lt y (pos 0)) else agree (x -ℤ y) (int_lt y (pos 0))

flags_if : (b : Bool) (x y : Outcome) → (if b then x else y).flags ≡ (if b then x.flags else y.flags)
flags_if true x y = refl
flags_if false x y = refl

first_is : (a b : ℕ) (f : LaneFlags) → (vch a b f).flags ≡ first_of (s16 a) (s16 b)
first_is a b f = flags_if (signs_differ a b) (vch_signs_differ a b) (vch_signs_agree a b)

both_positive : (a b : ℕ) → first_of (pos a) (pos b) ≡ agree (pos a -ℤ pos b) false
both_positive a b = let p = le-ltb a 0 (omega arith) in let q = le-ltb b 0 (omega arith) in rw (p, q) refl

one_negative : (k b : ℕ) → first_of (negsuc k) (pos b) ≡ apart (negsuc k +ℤ pos b) false
one_negative k b = let q = le-ltb b 0 (omega arith) in rw q refl

-- the flags after VCL
abbrev last_of : ℕ → ℕ → LaneFlags → LaneFlags
last_of c d f = (vcl c d f).flags

smaller : (c d k : ℕ) → last_of c d (agree (negsuc k) false) ≡ compare_flags false false
smaller c d k = refl

not_0 : (k : ℕ) → 0 < k → int_eq (pos k) (pos 0) ≡ false
not_0 k h = grind (arith, nat_tests)

not_minus_1 : (k : ℕ) → 0 < k → int_eq (negsuc k) (negsuc 0) ≡ false
not_minus_1 k h = grind (arith, nat_tests)

larger : (c d k : ℕ) → 0 < k → last_of c d (agree (pos k) false) ≡ compare_flags false true
larger c d k h = let p = not_0 k h in let q = le-leb 0 k (omega arith) in rw (p, q) refl

same_high : (c d : ℕ) → last_of c d (agree (pos 0) false) ≡ compare_flags false (nat_le d c)
same_high c d = refl

far_below : (c d k : ℕ) → 0 < k → last_of c d (apart (negsuc k) false) ≡ compare_flags true false
far_below c d k h = let p = not_minus_1 k h in rw p refl

just_below : (c d : ℕ) → last_of c d (apart (negsuc 0) false) ≡ compare_flags (nat_eq ((c + d) % 65536) 0 || nat_lt (c + d) 65536) false
just_below c d = refl

opposite : (c d : ℕ) → last_of c d (apart (pos 0) false) ≡ compare_flags (nat_eq (c + d) 0) false
opposite c d = refl

not_below : (c d k : ℕ) → 0 < k → last_of c d (apart (pos k) false) ≡ compare_flags false false
not_below c d k h = let p = not_0 k h in let q = lt-leb k 0 (omega arith) in rw (p, q) refl

-- the same for a w below 0
pos_neg : (a k : ℕ) → first_of (pos a) (negsuc k) ≡ apart (pos a +ℤ negsuc k) true
pos_neg a k = let p = le-ltb a 0 (omega arith) in rw p refl

neg_neg : (j k : ℕ) → first_of (negsuc j) (negsuc k) ≡ agree (negsuc j -ℤ negsuc k) true
neg_neg j k = refl

smaller_n : (c d k : ℕ) → last_of c d (agree (negsuc k) true) ≡ compare_flags true false
smaller_n c d k = refl

larger_n : (c d k : ℕ) → 0 < k → last_of c d (agree (pos k) true) ≡ compare_flags true true
larger_n c d k h = let p = not_0 k h in let q = le-leb 0 k (omega arith) in rw (p, q) refl

same_high_n : (c d : ℕ) → last_of c d (agree (pos 0) true) ≡ compare_flags true (nat_le d c)
same_high_n c d = refl

far_below_n : (c d k : ℕ) → 0 < k → last_of c d (apart (negsuc k) true) ≡ compare_flags true true
far_below_n c d k h = let p = not_minus_1 k h in rw p refl

just_below_n : (c d : ℕ) → last_of c d (apart (negsuc 0) true) ≡ compare_flags (nat_eq ((c + d) % 65536) 0 || nat_lt (c + d) 65536) true
just_below_n c d = refl

opposite_n : (c d : ℕ) → last_of c d (apart (pos 0) true) ≡ compare_flags (nat_eq (c + d) 0) true
opposite_n c d = refl

not_below_n : (c d k : ℕ) → 0 < k → last_of c d (apart (pos k) true) ≡ compare_flags false true
not_below_n c d k h = let p = not_0 k h in let q = lt-leb k 0 (omega arith) in rw (p, q) refl

-- the two codes of a number with this sign
at_most_0 : (p q : ℕ) → int_le (negsuc p +ℤ pos q) (pos 0) ≡ nat_le q (p + 1)
at_most_0 p q = elim (cases_lt p q) [
  | inl l ↦ let e : negsuc p +ℤ pos q ≡ pos (q - p - 1) = omega (arith, ints) in ap (λ z. int_le z (pos 0)) e ∙ nat_case (q - p - 1) q (p + 1) (omega arith)
  | inr l ↦ let e : negsuc p +ℤ pos q ≡ negsuc (p - q) = omega (arith, ints) in ap (λ z. int_le z (pos 0)) e ∙ sym (le-leb q (p + 1) (omega arith))
]
  where
    nat_case : (k q r : ℕ) → q ≡ k + r → nat_le k 0 ≡ nat_le q r
    nat_case k q r e = grind (arith, nat_tests)

below_positive : (x w : ℕ) → is_below (pos x) (pos w) ≡ false
below_positive x w = let p = le-ltb x 0 (omega arith) in let q = le-ltb w 0 (omega arith) in rw (p, q) refl

below_pos_neg : (x w : ℕ) → is_below (pos x) (negsuc w) ≡ nat_le x (w + 1)
below_pos_neg x w = let p = le-ltb x 0 (omega arith) in rw p (ap (λ z. int_le z (pos 0)) (+ℤ_comm (pos x) (negsuc w)) ∙ at_most_0 w x)

below_neg_neg : (x w : ℕ) → is_below (negsuc x) (negsuc w) ≡ true
below_neg_neg x w = refl

shown : (a b c d : ℕ) (f g : LaneFlags) (p q : Bool) (x w : ℤ) → (vch a b f).flags ≡ g → last_of c d g ≡ compare_flags p q
    → s32 (a * 65536 + c) ≡ x → s32 (b * 65536 + d) ≡ w → p ≡ is_below x w → q ≡ is_above x w → Codes a b c d f
shown a b c d f g p q x w one two e k below above = rw (e, k) (ap (last_of c d) one ∙ two ∙ rw (below, above) refl)

positive : (a b c d : ℕ) (f : LaneFlags) → a < 32768 → b < 32768 → c < 65536 → d < 65536 → Codes a b c d f
positive a b c d f ha hb hc hd =
    let x : s32 (a * 65536 + c) ≡ pos (a * 65536 + c) = s32_small _ (omega arith) in
    let w : s32 (b * 65536 + d) ≡ pos (b * 65536 + d) = s32_small _ (omega arith) in
    let one = first_is a b f ∙ ap (λ z. first_of z (s16 b)) (s16_small a (omega arith)) ∙ ap (first_of (pos a)) (s16_small b (omega arith)) ∙ both_positive a b in
    let low = sym (below_positive (a * 65536 + c) (b * 65536 + d)) in
    elim (cases_lt a b) [
      | inl l ↦
          let e : pos a -ℤ pos b ≡ negsuc (b - a - 1) = omega (arith, ints) in
          shown a b c d f _ _ _ _ _ (one ∙ ap (λ n. agree n false) e) (smaller c d (b - a - 1)) x w low (sym (lt-leb (b * 65536 + d) (a * 65536 + c) (omega arith)))
      | inr l ↦ elim (cases_lt b a) [
        | inl m ↦
            let e : pos a -ℤ pos b ≡ pos (a - b) = omega (arith, ints) in
            shown a b c d f _ _ _ _ _ (one ∙ ap (λ n. agree n false) e) (larger c d (a - b) (omega arith)) x w low (sym (le-leb (b * 65536 + d) (a * 65536 + c) (omega arith)))
        | inr m ↦
            let e : pos a -ℤ pos b ≡ pos 0 = omega (arith, ints) in
            shown a b c d f _ _ _ _ _ (one ∙ ap (λ n. agree n false) e) (same_high c d) x w low (low_halves a b c d (omega arith))
      ]
    ]
  where
    low_halves : (a b c d : ℕ) → a ≡ b → nat_le d c ≡ nat_le (b * 65536 + d) (a * 65536 + c)
    low_halves a b c d e = grind (arith, nat_tests)

none_over : (a b c d v y : ℕ) → v ≤ y + (c + d) → y + (c + d) ≤ v → c + d < 131072 → nat_eq (c + d) 0 ≡ nat_le v y
none_over a b c d v y p q r = grind (arith, nat_tests)

one_over : (a b c d v y : ℕ) → c < 65536 → d < 65536 → v + 65536 ≡ y + (c + d) → (nat_eq ((c + d) % 65536) 0 || nat_lt (c + d) 65536) ≡ nat_le v y
one_over a b c d v y p q e = grind (arith, nat_tests)

negative : (a b c d : ℕ) (f : LaneFlags) → 32768 ≤ a → a < 65536 → b < 32768 → c < 65536 → d < 65536 → Codes a b c d f
negative a b c d f la ha hb hc hd =
    let y = 2 ^ 32 - 1 - (a * 65536 + c) in
    let v = b * 65536 + d in
    let k = 2 ^ 16 - 1 - a in
    let x : s32 (a * 65536 + c) ≡ negsuc y = s32_large _ (omega arith) (omega arith) in
    let w : s32 v ≡ pos v = s32_small _ (omega arith) in
    let one = first_is a b f ∙ ap (λ z. first_of z (s16 b)) (s16_large a la (omega arith)) ∙ ap (first_of (negsuc k)) (s16_small b (omega arith)) ∙ one_negative k b in
    let low = sym (at_most_0 y v) in
    elim (cases_lt k b) [
      | inl l ↦ elim (cases_lt (k + 1) b) [
        | inl m ↦
            let e : negsuc k +ℤ pos b ≡ pos (b - k - 1) = omega (arith, ints) in
            shown a b c d f _ _ _ _ _ (one ∙ ap (λ n. apart n false) e) (not_below c d (b - k - 1) (omega arith)) x w (sym (lt-leb v (y + 1) (omega arith)) ∙ low) refl
        | inr m ↦
            let e : negsuc k +ℤ pos b ≡ pos 0 = omega (arith, ints) in
            shown a b c d f _ _ _ _ _ (one ∙ ap (λ n. apart n false) e) (opposite c d) x w (none_over a b c d v (y + 1) (omega arith) (omega arith) (omega arith) ∙ low) refl
      ]
      | inr l ↦ elim (cases_lt b k) [
        | inl m ↦
            let e : negsuc k +ℤ pos b ≡ negsuc (k - b) = omega (arith, ints) in
            shown a b c d f _ _ _ _ _ (one ∙ ap (λ n. apart n false) e) (far_below c d (k - b) (omega arith)) x w (sym (le-leb v (y + 1) (omega arith)) ∙ low) refl
        | inr m ↦
            let e : negsuc k +ℤ pos b ≡ negsuc 0 = omega (arith, ints) in
            shown a b c d f _ _ _ _ _ (one ∙ ap (λ n. apart n false) e) (just_below c d) x w (one_over a b c d v (y + 1) hc hd (omega arith) ∙ low) refl
      ]
    ]

-- w below 0, x not
positive_w : (a b c d : ℕ) (f : LaneFlags) → a < 32768 → 32768 ≤ b → b < 65536 → c < 65536 → d < 65536 → Codes a b c d f
positive_w a b c d f ha lb hb hc hd =
    let v = a * 65536 + c in
    let y = 2 ^ 32 - 1 - (b * 65536 + d) in
    let k = 2 ^ 16 - 1 - b in
    let x : s32 v ≡ pos v = s32_small _ (omega arith) in
    let w : s32 (b * 65536 + d) ≡ negsuc y = s32_large _ (omega arith) (omega arith) in
    let one = first_is a b f ∙ ap (λ z. first_of z (s16 b)) (s16_small a (omega arith)) ∙ ap (first_of (pos a)) (s16_large b lb (omega arith)) ∙ pos_neg a k in
    let low = sym (below_pos_neg v y) in
    elim (cases_lt k a) [
      | inl l ↦ elim (cases_lt (k + 1) a) [
        | inl m ↦
            let e : pos a +ℤ negsuc k ≡ pos (a - k - 1) = omega (arith, ints) in
            shown a b c d f _ _ _ _ _ (one ∙ ap (λ n. apart n true) e) (not_below_n c d (a - k - 1) (omega arith)) x w (sym (lt-leb v (y + 1) (omega arith)) ∙ low) refl
        | inr m ↦
            let e : pos a +ℤ negsuc k ≡ pos 0 = omega (arith, ints) in
            shown a b c d f _ _ _ _ _ (one ∙ ap (λ n. apart n true) e) (opposite_n c d) x w (none_over a b c d v (y + 1) (omega arith) (omega arith) (omega arith) ∙ low) refl
      ]
      | inr l ↦ elim (cases_lt a k) [
        | inl m ↦
            let e : pos a +ℤ negsuc k ≡ negsuc (k - a) = omega (arith, ints) in
            shown a b c d f _ _ _ _ _ (one ∙ ap (λ n. apart n true) e) (far_below_n c d (k - a) (omega arith)) x w (sym (le-leb v (y + 1) (omega arith)) ∙ low) refl
        | inr m ↦
            let e : pos a +ℤ negsuc k ≡ negsuc 0 = omega (arith, ints) in
            shown a b c d f _ _ _ _ _ (one ∙ ap (λ n. apart n true) e) (just_below_n c d) x w (one_over a b c d v (y + 1) hc hd (omega arith) ∙ low) refl
      ]
    ]

-- both below 0
negative_w : (a b c d : ℕ) (f : LaneFlags) → 32768 ≤ a → a < 65536 → 32768 ≤ b → b < 65536 → c < 65536 → d < 65536 → Codes a b c d f
negative_w a b c d f la ha lb hb hc hd =
    let v = 2 ^ 32 - 1 - (a * 65536 + c) in
    let y = 2 ^ 32 - 1 - (b * 65536 + d) in
    let j = 2 ^ 16 - 1 - a in
    let k = 2 ^ 16 - 1 - b in
    let x : s32 (a * 65536 + c) ≡ negsuc v = s32_large _ (omega arith) (omega arith) in
    let w : s32 (b * 65536 + d) ≡ negsuc y = s32_large _ (omega arith) (omega arith) in
    let one = first_is a b f ∙ ap (λ z. first_of z (s16 b)) (s16_large a la (omega arith)) ∙ ap (first_of (negsuc j)) (s16_large b lb (omega arith)) ∙ neg_neg j k in
    let low = sym (below_neg_neg v y) in
    elim (cases_lt a b) [
      | inl l ↦
          let e : negsuc j -ℤ negsuc k ≡ negsuc (b - a - 1) = omega (arith, ints) in
          shown a b c d f _ _ _ _ _ (one ∙ ap (λ n. agree n true) e) (smaller_n c d (b - a - 1)) x w low (sym (lt-leb v y (omega arith)))
      | inr l ↦ elim (cases_lt b a) [
        | inl m ↦
            let e : negsuc j -ℤ negsuc k ≡ pos (a - b) = omega (arith, ints) in
            shown a b c d f _ _ _ _ _ (one ∙ ap (λ n. agree n true) e) (larger_n c d (a - b) (omega arith)) x w low (sym (le-leb v y (omega arith)))
        | inr m ↦
            let e : negsuc j -ℤ negsuc k ≡ pos 0 = omega (arith, ints) in
            shown a b c d f _ _ _ _ _ (one ∙ ap (λ n. agree n true) e) (same_high_n c d) x w low (low_halves_w c d v y (omega arith))
      ]
    ]
  where
    low_halves_w : (c d v y : ℕ) → v + c ≡ y + d → nat_le d c ≡ nat_le v y
    low_halves_w c d v y e = grind (arith, nat_tests)

codes_are : (a b c d : ℕ) (f : LaneFlags) → a < 65536 → b < 65536 → c < 65536 → d < 65536 → Codes a b c d f
codes_are a b c d f ha hb hc hd = elim (cases_lt b 32768) [
  | inl m ↦ elim (cases_lt a 32768) [
    | inl l ↦ positive a b c d f l m hc hd
    | inr l ↦ negative a b c d f l ha m hc hd
  ]
  | inr m ↦ elim (cases_lt a 32768) [
    | inl l ↦ positive_w a b c d f l m hb hc hd
    | inr l ↦ negative_w a b c d f l ha m hb hc hd
  ]
]

-- the flags of all lanes
pub clip_codes : ClipCodes
unfolding flags_after
clip_codes a b c d e f is_a is_b is_c is_d = all_same _ _ (λ i h.
    let first = flags_after vch a (selected c e) f in
    let one : flags_at first i ≡ (vch (get_or a i 0) (get_or (selected c e) i 0) (flags_at f i)).flags =
    flags_of (λ i. (outcome_at vch a (selected c e) f i).flags) first refl i h in
    ap (λ (g : LaneFlags). (vcl (get_or b i 0) (get_or (selected d e) i 0) g).flags) one
    ∙ rw (picked c e i h, picked d e i h) (codes_are (get_or a i 0) (get_or c (source_lane e i) 0) (get_or b i 0) (get_or d (source_lane e i) 0) (flags_at f i)
    (is_a.1 i) (is_c.1 _) (is_b.1 i) (is_d.1 _)))

-- VCL reads what the state before both has
abbrev after_first : VectorFields → State → State
after_first high s = executed (VectorClip Vch high) s

other : (a b : ℕ) → not (a == b) ≡ true → a ≢ b
other a b h = grind (arith, nat_tests)

alike : (a b : ℕ) → (a == b) ≡ true → a ≡ b
alike a b h = grind (arith, nat_tests)

pub clips_run : ClipsRun
unfolding executed instruction_effect ruled
clips_run high low s is fits =
    let parts = and_parts _ _ fits in
    let numbers = and_parts _ _ parts.0 in
    let highs = and_parts _ _ numbers.0 in
    let lows = and_parts _ _ numbers.1 in
    let rest = and_parts _ _ parts.1 in
    let apart = and_parts _ _ rest.1 in
    let read = λ (n : ℕ) (h : not (n == high.vd) ≡ true). read_other s.vectors high.vd n (high_result high s) (other n high.vd h) in
    let v = is.registers in
    let same : low.element ≡ high.element = alike low.element high.element rest.0 in
    let codes : flags_after vcl (vector s.vectors low.vs) (selected (vector s.vectors low.vt) low.element) (high_flags high s) ≡ codes_of (numbers_of high low s.vectors) (bounds_of high low s.vectors) =
    rw same (clip_codes (vector s.vectors high.vs) (vector s.vectors low.vs) (vector s.vectors high.vt) (vector s.vectors low.vt) high.element s.flags
    (v high.vs (ltb-true _ _ highs.0)) (v low.vs (ltb-true _ _ lows.0)) (v high.vt (ltb-true _ _ highs.1)) (v low.vt (ltb-true _ _ lows.1))) in
    rw (read low.vs apart.0, read low.vt apart.1) (ap (λ (f : Flags). let t : State = record (clipped high low s) { flags = f } in t) codes)

-- what CFC2 makes of sixteen bits: the same, below copies of bit 15
extended : (n : ℕ) → n < 65536 → (k : ℕ) × (sign_extended w16 n ≡ n + k * 65536)
extended n h = elim (cases_lt n 32768) [
  | inl l ↦ (0, ap (λ z. modulo z (2 ^ 32)) (s16_small n l) ∙ omega (arith, ints))
  | inr l ↦ (65535, ap (λ z. modulo z (2 ^ 32)) (s16_large n l h) ∙ omega (arith, ints))
]

low_bit : (a m : ℕ) (i : ℕ) → i < 8 → (a + m * 256) / 2 ^ i % 2 ≡ a / 2 ^ i % 2
low_bit a m = below_eight (λ i. (a + m * 256) / 2 ^ i % 2 ≡ a / 2 ^ i % 2)
    (omega arith) (omega arith) (omega arith) (omega arith) (omega arith) (omega arith) (omega arith) (omega arith)

high_bit : (a b k : ℕ) → a < 256 → (i : ℕ) → i < 8 → (a + b * 256 + k * 65536) / 2 ^ (8 + i) % 2 ≡ b / 2 ^ i % 2
high_bit a b k h = below_eight (λ i. (a + b * 256 + k * 65536) / 2 ^ (8 + i) % 2 ≡ b / 2 ^ i % 2)
    (omega arith) (omega arith) (omega arith) (omega arith) (omega arith) (omega arith) (omega arith) (omega arith)

is_one : (b : Bool) → (cond b 1 0 == 1) ≡ b
is_one true = refl
is_one false = refl

flag_bit : (ms : List Bool) (i n : ℕ) → n ≡ mask_l ms / 2 ^ i % 2 → (n == 1) ≡ get_or ms i false
flag_bit ms i n e = ap (λ x. x == 1) (e ∙ bit_mask_l ms i) ∙ is_one (get_or ms i false)

eight_bits : (ms : List Bool) → length ms ≡ 8 → mask_l ms < 256
eight_bits ms h = subst (λ n. mask_l ms < 2 ^ n) h (mask_l-lt ms)

-- VCC as a number
vcc_bits : (ms ns : List Bool) → length ms ≡ 8 → length ns ≡ 8 → (i : ℕ) → i < 8
    → let n = sign_extended w16 (mask_l ms + mask_l ns * 256) in (bit_set n i ≡ get_or ms i false) × (bit_set n (8 + i) ≡ get_or ns i false)
vcc_bits ms ns h k i l =
    let a = mask_l ms in
    let b = mask_l ns in
    let small = eight_bits ms h in
    let e = extended (a + b * 256) (omega (arith, small, eight_bits ns k)) in
    let split : a + b * 256 + e.0 * 65536 ≡ a + (b + e.0 * 256) * 256 = omega arith in (
      flag_bit ms i _ (ap (λ n. n / 2 ^ i % 2) (e.1 ∙ split) ∙ low_bit a (b + e.0 * 256) i l),
      flag_bit ns i _ (ap (λ n. n / 2 ^ (8 + i) % 2) e.1 ∙ high_bit a b e.0 small i l),
    )

pub code_bits : CodeBits
code_bits x w i h =
    let f = codes_of x w in
    let bits = vcc_bits f.compare f.clip (length_each _) (length_each _) i h in
    (bits.0 ∙ lane_of false _ f.compare refl i h, bits.1 ∙ lane_of false _ f.clip refl i h)
