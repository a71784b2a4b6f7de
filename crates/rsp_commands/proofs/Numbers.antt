-- A number of a script is below the cap of the numbers of the assembler.
use Rattle.std.proofs.Common.{◌≡◌, ℕ, ◌^◌, ◌<◌, ◌≤◌, List, [], ◌∷◌, length, drop, Bool, true, false, refl, ap, arith, length-drop}
use Rattle.std.specs.Prelude.{nat_eq, nat_lt, Some, None, option_map, if◌then◌else◌, codes}
use Rattle.std.specs.List.{list_all, starts_with}
use Rattle.std.specs.Char.{digit_value}
use Rattle.std.specs.Str.Parse.{digits_value, AllDigits}
use Rattle.std.proofs.Math.Nat.{pow-le-pow_right}
use Rattle.std.proofs.lemmas.Bool.{and_parts}
use Rattle.std.proofs.lemmas.Bool.Decides.{nat_tests}
use Rattle.std.proofs.lemmas.Int.Digits.{digits_value-lt}
use Rattle.rsp_syntax.specs.Numbers.{is_numeral, numeral, unsigned_of}
use Rattle.rsp_syntax.specs.Capping.{capped, number_cap}

all_digits : (radix : ℕ) (bs : List ℕ) → list_all (λ c. nat_lt (digit_value c) radix) bs ≡ true → AllDigits radix bs
all_digits radix [] h = tt
all_digits radix (c ∷ cs) h =
    let both = and_parts (nat_lt (digit_value c) radix) _ h in
    (grind (arith, nat_tests, both.0), all_digits radix cs both.1)

-- k digits in a base write a number below the base to the power k
numeral_below : (radix k : ℕ) (bs : List ℕ) → is_numeral radix bs ≡ true → length bs ≤ k → 1 ≤ radix → digits_value radix bs < radix ^ k
numeral_below radix k bs h few base =
    let value = digits_value-lt radix bs (all_digits radix bs (and_parts _ _ h).1) in
    let power = pow-le-pow_right {n = radix} base few in
    omega (arith, value, power)

capped_if : (b : Bool) (n : ℕ) → (b ≡ true → n ≤ number_cap) → option_map capped (if b then Some n else None) ≡ (if b then Some n else None)
capped_if true n h = let low = h refl in ap Some (omega (arith, low))
capped_if false n h = refl

numeral_capped : (radix k : ℕ) (bs : List ℕ) → length bs ≤ k → 1 ≤ radix → radix ^ k ≤ number_cap → option_map capped (numeral radix bs) ≡ numeral radix bs
numeral_capped radix k bs few base small =
    capped_if (is_numeral radix bs) (digits_value radix bs) (λ t. let below = numeral_below radix k bs t few base in omega (arith, below, small))

-- a number of at most 10 bytes is not capped
pub short_number : (word : List ℕ) → length word ≤ 10 → option_map capped (unsigned_of word) ≡ unsigned_of word
short_number word h = by_prefix (starts_with nat_eq word (codes "0x"))
  where
    by_prefix : (b : Bool) → option_map capped (if b then numeral 16 (drop 2 word) else numeral 10 word) ≡ (if b then numeral 16 (drop 2 word) else numeral 10 word)
    by_prefix true = numeral_capped 16 8 (drop 2 word) (omega (arith, h, length-drop 2 word)) (omega arith) (omega arith)
    by_prefix false = numeral_capped 10 10 word h (omega arith) (omega arith)
