-- The clip instructions for one lane: what the code computes, from a and b, whether the signs differ, and n.
use Rattle.std.proofs.Common.{◌≡◌, ℕ, ◌+◌, ◌%◌, ◌<◌, ℤ, pos, negsuc, ◌+ℤ◌, ◌-ℤ◌, Bool, true, false, cond, not, ◌&&◌, ◌||◌, nat_lt, nat_eq, nat_le, arith, refl}
use Rattle.std.specs.Prelude.{int_lt, int_le}
use Rattle.std.specs.Ordering.{int_eq}
use Rattle.std.proofs.lemmas.Bool.Decides.{nat_tests}
use Rattle.rsp_lanes.specs.Lanes.{bool_xor}
use Rattle.rsp_numbers.specs.Numbers.{s16, sixteen_bits, complement, negated}
use Rattle.rsp_lanes.specs.Flags.{LaneFlags}
use Rattle.rsp_lanes.specs.Outcome.{Outcome, plain}
use Rattle.rsp_compare.specs.ClipParts.{sum_or_difference}
use Rattle.rsp_compare.specs.Clips.{signs_differ, compare_flags, vch, vch_signs_differ, vch_signs_agree, vcl, vcr, vcr_signs_differ, vcr_signs_agree, clip_rule}
use Rattle.rsp_compare.specs.declared.clips.ClipOp.{ClipOp}
use Rattle.rsp_compare.specs.declared.clips.ClipOp.TheVariants.{Vcl, Vch, Vcr}
use Rattle.rsp_compare.proofs.ClipSigns.{IsSigned, below_zero, is_negative, is_zero, is_minus_one, sum_or_difference_signed}

-- tests of a signed number
up_to_zero : (z : ℤ) → (int_eq z (pos 0) || not (bool_xor (int_lt z (pos 0)) true)) ≡ int_le z (pos 0)
up_to_zero (pos n) = grind (arith, nat_tests)
up_to_zero (negsuc n) = refl

zero_or_more : (z : ℤ) → (int_eq z (pos 0) || not (bool_xor (int_lt z (pos 0)) false)) ≡ int_le (pos 0) z
zero_or_more (pos n) = grind (arith, nat_tests)
zero_or_more (negsuc n) = refl

from_zero : (z : ℤ) → not (bool_xor (int_lt z (pos 0)) false) ≡ int_le (pos 0) z
from_zero (pos n) = grind (arith, nat_tests)
from_zero (negsuc n) = refl

before_zero : (z : ℤ) → not (bool_xor (int_lt z (pos 0)) true) ≡ int_le (z +ℤ pos 1) (pos 0)
before_zero (pos n) = grind (arith, nat_tests)
before_zero (negsuc n) = grind (arith, nat_tests)

not_or : (x y : Bool) → not (x || y) ≡ (not x && not y)
not_or true y = refl
not_or false y = refl

or_false : (x : Bool) → (x || false) ≡ x
or_false true = refl
or_false false = refl

and_or : (x y : Bool) → ((x && y) || (x || y)) ≡ (x || y)
and_or true true = refl
and_or true false = refl
and_or false y = refl

-- VCH
abbrev pub vch_code : Bool → ℕ → ℕ → ℕ → Outcome
vch_code t n a b =
    let taken = nat_eq n 0 || not (bool_xor (nat_lt 32767 n) t) in
    let compare = cond t taken (nat_lt 32767 b) in
    let clip = cond t (nat_lt 32767 b) taken in
    plain (cond taken (cond t (negated b) b) a)
    (record { carry = t; differ = not (nat_eq n 0 || t && nat_eq n 65535); compare = compare; clip = clip; extra = t && nat_eq n 65535 })

vch_cases : (t : Bool) (y z : ℤ) (a b : ℕ) → IsSigned (cond t y z) → y ≡ s16 a +ℤ s16 b → z ≡ s16 a -ℤ s16 b
    → vch_code t (sixteen_bits (cond t y z)) a b ≡ cond t (vch_signs_differ a b) (vch_signs_agree a b)
vch_cases true y z a b h e k = rw (← e, is_negative y h, is_zero y h, is_minus_one y h, up_to_zero y, not_or, below_zero b) refl
vch_cases false y z a b h e k = rw (← k, is_negative z h, is_zero z h, zero_or_more z, or_false, below_zero b) refl

pub vch_is : (a b : ℕ) (f : LaneFlags) → a < 65536 → b < 65536
    → vch_code (signs_differ a b) (sixteen_bits (sum_or_difference a b)) a b ≡ vch a b f
vch_is a b f h k = vch_cases (signs_differ a b) _ _ a b (sum_or_difference_signed a b h k) refl refl

-- VCR
abbrev pub vcr_code : Bool → ℕ → ℕ → ℕ → Outcome
vcr_code t n a b =
    let taken = not (bool_xor (nat_lt 32767 n) t) in
    let compare = cond t taken (nat_lt 32767 b) in
    let clip = cond t (nat_lt 32767 b) taken in
    plain (cond taken (cond t (complement b) b) a) (compare_flags compare clip)

vcr_cases : (t : Bool) (y z : ℤ) (a b : ℕ) → IsSigned (cond t y z) → y ≡ s16 a +ℤ s16 b → z ≡ s16 a -ℤ s16 b
    → vcr_code t (sixteen_bits (cond t y z)) a b ≡ cond t (vcr_signs_differ a b) (vcr_signs_agree a b)
vcr_cases true y z a b h e k = rw (← e, is_negative y h, before_zero y, below_zero b) refl
vcr_cases false y z a b h e k = rw (← k, is_negative z h, from_zero z, below_zero b) refl

pub vcr_is : (a b : ℕ) (f : LaneFlags) → a < 65536 → b < 65536
    → vcr_code (signs_differ a b) (sixteen_bits (sum_or_difference a b)) a b ≡ vcr a b f
vcr_is a b f h k = vcr_cases (signs_differ a b) _ _ a b (sum_or_difference_signed a b h k) refl refl

-- VCL, from the sum without carry, and from whether it passes 65535
fits : (n : ℕ) → not (nat_le 65536 n) ≡ nat_lt n 65536
fits n = grind (arith, nat_tests)

is_all_zero : (n : ℕ) → (nat_eq (n % 65536) 0 && nat_lt n 65536) ≡ nat_eq n 0
is_all_zero n = grind (arith, nat_tests)

up_to : (a b : ℕ) → not (nat_lt a b) ≡ nat_le b a
up_to a b = grind (arith, nat_tests)

abbrev pub vcl_code : ℕ → ℕ → ℕ → LaneFlags → Outcome
vcl_code n a b f =
    let is_zero = nat_eq (n % 65536) 0 in
    let fits = not (nat_le 65536 n) in
    let compare = cond (f.carry && not f.differ) ((is_zero && fits) || (f.extra && (is_zero || fits))) f.compare in
    let clip = cond (not (f.carry || f.differ)) (not (nat_lt a b)) f.clip in
    plain (cond (cond f.carry compare clip) (cond f.carry (negated b) b) a) (compare_flags compare clip)

vcl_cases : (a b : ℕ) (p q c l e : Bool)
    → vcl_code (a + b) a b (record { carry = p; differ = q; compare = c; clip = l; extra = e })
    ≡ vcl a b (record { carry = p; differ = q; compare = c; clip = l; extra = e })
vcl_cases a b true true c l e = refl
vcl_cases a b true false c l true = rw (fits (a + b), and_or (nat_eq ((a + b) % 65536) 0) (nat_lt (a + b) 65536)) refl
vcl_cases a b true false c l false = rw (fits (a + b), is_all_zero (a + b), or_false (nat_eq (a + b) 0)) refl
vcl_cases a b false true c l e = refl
vcl_cases a b false false c l e = rw (up_to a b) refl

pub vcl_is : (a b : ℕ) (f : LaneFlags) (n : ℕ) → n ≡ a + b → vcl_code n a b f ≡ vcl a b f
vcl_is a b f n e = rw e (vcl_cases a b f.carry f.differ f.compare f.clip f.extra)

-- each instruction writes its result to the low sixteen bits of the accumulator
vcl_low : (a b : ℕ) (p q c l e : Bool) (f : LaneFlags) → f ≡ record { carry = p; differ = q; compare = c; clip = l; extra = e } → (vcl a b f).result ≡ (vcl a b f).low
vcl_low a b true true c l e f is = rw is refl
vcl_low a b true false c l e f is = rw is refl
vcl_low a b false true c l e f is = rw is refl
vcl_low a b false false c l e f is = rw is refl

vch_low : (t : Bool) (a b : ℕ) → (cond t (vch_signs_differ a b) (vch_signs_agree a b)).result ≡ (cond t (vch_signs_differ a b) (vch_signs_agree a b)).low
vch_low true a b = refl
vch_low false a b = refl

vcr_low : (t : Bool) (a b : ℕ) → (cond t (vcr_signs_differ a b) (vcr_signs_agree a b)).result ≡ (cond t (vcr_signs_differ a b) (vcr_signs_agree a b)).low
vcr_low true a b = refl
vcr_low false a b = refl

pub low_is : (op : ClipOp) (a b : ℕ) (f : LaneFlags) → (clip_rule op a b f).result ≡ (clip_rule op a b f).low
low_is Vcl a b f = vcl_low a b f.carry f.differ f.compare f.clip f.extra f refl
low_is Vch a b f = vch_low (signs_differ a b) a b
low_is Vcr a b f = vcr_low (signs_differ a b) a b
