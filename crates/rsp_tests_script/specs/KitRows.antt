-- What the kit's definitions give that the definitions of this repository use, in rows: the prover accepts each by
-- computing, and tests/evaluation/test_kit.py computes the same rows by definitions/kit.py.
use Rattle.std.specs.Prelude.{◌≡◌, ℕ, ◌+◌, ◌-◌, ◌*◌, ◌/◌, ◌%◌, ◌^◌, ◌==◌, suc, min, ℤ, pos, negsuc, ◌+ℤ◌, ◌-ℤ◌, ◌*ℤ◌, neg_ℤ, unsigned_abs, int_lt, int_le, Bool, true, false, not, ◌&&◌, ◌||◌, cond, if◌then◌else◌, nat_lt, nat_le, nat_eq, bit_and, bit_or, bit_xor}
use Rattle.std.specs.Prelude.{List, [], ◌∷◌, ◌++◌, length, slice_index, slice_index_or, slice_set, take, drop, reverse, replicate, map, flat_map, fold, filter, count_by, position, find, codes, bytes_eq, decimal, refl}
use Rattle.std.specs.Prelude.{Some, None, is_some, is_none, option_map, option_and_then, unwrap_or, ok_or, Ok, Err}
use Rattle.std.specs.Int.{int_div_euclid, int_rem_euclid, int_min, int_max, is_negative, cast_signed, leading_zeros, to_be_bytes, bit_at, w8, w16, w32}
use Rattle.std.specs.Ordering.{int_eq}
use Rattle.std.specs.List.{list_all, list_any, sum_by, position_or_len, before_first, after_first, slice_split, starts_with, range_with_len}
use Rattle.std.specs.Char.{digit_value, digit_char}
use Rattle.std.specs.Str.{str_eq_ignore_ascii_case}
use Rattle.std.specs.Str.Lines.{lines, strip_carriage_return}
use Rattle.std.specs.Str.Parse.{digits_value}
use Rattle.std.specs.Fmt.{signed_decimal, digits}
use Rattle.std.specs.Simd.Lanes.{mask_l}
use lib.Count.{count_leading_zeros}
use Rattle.arrayvec.specs.ArrayVec.{array_vec_len}
use Rattle.hex.specs.Hex.{encode_lower, decode_of, encode_with, decode_pairs}
use Rattle.hex.specs.declared.error.FromHexError.TheVariants.{OddLength, InvalidHexCharacter}

abbrev number : ℕ → ℕ
number n = n

abbrev members : List ℕ
members = 7 ∷ 8 ∷ 9 ∷ []

abbrev integers : List ℤ
integers = map (λ n. pos n -ℤ pos 20) (range_with_len 0 41)

abbrev is_euclidean : ℤ → ℤ → Bool
is_euclidean a b =
    let r = int_rem_euclid a b in
    int_eq (int_div_euclid a b *ℤ b +ℤ r) a && int_le (pos 0) r && nat_lt (unsigned_abs r) (unsigned_abs b)

-- Numbers: a difference stops at 0, and a division by 0 has a value, too.
pub sum : 7 + 5 ≡ 12
sum = refl

pub difference : 7 - 5 ≡ 2
difference = refl

pub difference-stops : 5 - 7 ≡ 0
difference-stops = refl

pub product : 7 * 5 ≡ 35
product = refl

pub quotient : 17 / 5 ≡ 3
quotient = refl

pub quotient-by-zero : 17 / 0 ≡ 0
quotient-by-zero = refl

pub rest : 17 % 5 ≡ 2
rest = refl

pub rest-by-zero : 17 % 0 ≡ 17
rest-by-zero = refl

pub power : 2 ^ 10 ≡ 1024
power = refl

pub power-of-zero : 0 ^ 0 ≡ 1
power-of-zero = refl

pub successor : suc 7 ≡ 8
successor = refl

pub least : min 7 5 ≡ 5
least = refl

pub less : nat_lt 5 7 ≡ true
less = refl

pub less-itself : nat_lt 7 7 ≡ false
less-itself = refl

pub at-most-itself : nat_le 7 7 ≡ true
at-most-itself = refl

pub at-most-less : nat_le 7 5 ≡ false
at-most-less = refl

pub equal : nat_eq 7 7 ≡ true
equal = refl

pub equal-sign : 7 == 5 ≡ false
equal-sign = refl

-- Signed numbers.
pub signed-sum : pos 5 +ℤ negsuc 6 ≡ negsuc 1
signed-sum = refl

pub signed-difference : pos 5 -ℤ pos 7 ≡ negsuc 1
signed-difference = refl

pub signed-product : negsuc 1 *ℤ pos 3 ≡ negsuc 5
signed-product = refl

pub signed-least : int_min (negsuc 1) (pos 0) ≡ negsuc 1
signed-least = refl

pub signed-greatest : int_max (negsuc 1) (pos 0) ≡ pos 0
signed-greatest = refl

pub signed-less : int_lt (negsuc 1) (negsuc 0) ≡ true
signed-less = refl

pub signed-at-most : int_le (pos 0) (negsuc 0) ≡ false
signed-at-most = refl

pub signed-equal : int_eq (negsuc 0) (negsuc 0) ≡ true
signed-equal = refl

pub negative-of : neg_ℤ (pos 3) ≡ negsuc 2
negative-of = refl

pub negative-of-zero : neg_ℤ (pos 0) ≡ pos 0
negative-of-zero = refl

pub negative-of-negative : neg_ℤ (negsuc 2) ≡ pos 3
negative-of-negative = refl

pub without-sign : unsigned_abs (negsuc 2) ≡ 3
without-sign = refl

pub below-zero : is_negative (negsuc 0) ≡ true
below-zero = refl

pub zero-not-below : is_negative (pos 0) ≡ false
zero-not-below = refl

pub euclidean : int_div_euclid (pos 7) (pos 2) ≡ pos 3
euclidean = refl

pub euclidean-rest : int_rem_euclid (pos 7) (pos 2) ≡ pos 1
euclidean-rest = refl

pub euclidean-of-negative : int_div_euclid (negsuc 6) (pos 2) ≡ negsuc 3
euclidean-of-negative = refl

pub euclidean-rest-of-negative : int_rem_euclid (negsuc 6) (pos 2) ≡ pos 1
euclidean-rest-of-negative = refl

pub euclidean-by-negative : int_div_euclid (pos 7) (negsuc 1) ≡ negsuc 2
euclidean-by-negative = refl

pub euclidean-of-two-negative : int_div_euclid (negsuc 6) (negsuc 1) ≡ pos 4
euclidean-of-two-negative = refl

pub euclidean-by-zero : int_div_euclid (pos 7) (pos 0) ≡ pos 0
euclidean-by-zero = refl

pub euclidean-rest-by-zero : int_rem_euclid (pos 7) (pos 0) ≡ pos 7
euclidean-rest-by-zero = refl

pub negative-by-zero : int_div_euclid (negsuc 6) (pos 0) ≡ negsuc 0
negative-by-zero = refl

pub negative-rest-by-zero : int_rem_euclid (negsuc 6) (pos 0) ≡ pos 0
negative-rest-by-zero = refl

-- q * b + r = a and 0 ≤ r < |b|, for all a and b from -20 to 20 except b = 0.
pub euclidean-law : list_all (λ a. list_all (λ b. int_eq b (pos 0) || is_euclidean a b) integers) integers ≡ true
euclidean-law = refl

-- Bits: a number may have more of them than the width.
pub two's-complement : cast_signed w16 32768 ≡ negsuc 32767
two's-complement = refl

pub two's-complement-greatest : cast_signed w16 32767 ≡ pos 32767
two's-complement-greatest = refl

pub two's-complement-too-wide : cast_signed w8 256 ≡ negsuc 0
two's-complement-too-wide = refl

pub zeros-before : leading_zeros w32 1 ≡ 31
unfolding count_leading_zeros
zeros-before = refl

pub zeros-of-zero : leading_zeros w16 0 ≡ 16
unfolding count_leading_zeros
zeros-of-zero = refl

pub zeros-too-wide : leading_zeros w8 256 ≡ 0
unfolding count_leading_zeros
zeros-too-wide = refl

pub bytes-of : to_be_bytes w32 0x01020304 ≡ 1 ∷ 2 ∷ 3 ∷ 4 ∷ []
bytes-of = refl

pub bytes-too-wide : to_be_bytes w16 0x01020304 ≡ 3 ∷ 4 ∷ []
bytes-too-wide = refl

pub both-bits : bit_and 12 10 ≡ 8
both-bits = refl

pub either-bit : bit_or 12 10 ≡ 14
either-bit = refl

pub one-bit : bit_xor 12 10 ≡ 6
one-bit = refl

pub bit-set : bit_at 4 2 ≡ 1
bit-set = refl

pub bit-beyond : bit_at 4 100 ≡ 0
bit-beyond = refl

pub mask-of : mask_l (true ∷ false ∷ true ∷ true ∷ []) ≡ 13
mask-of = refl

pub mask-of-none : mask_l [] ≡ 0
mask-of-none = refl

-- Truth values.
pub opposite : not true ≡ false
opposite = refl

pub both : true && false ≡ false
both = refl

pub either : true || false ≡ true
either = refl

pub chosen : cond false (number 3) 4 ≡ 4
chosen = refl

pub chosen-then : if true then number 3 else 4 ≡ 3
chosen-then = refl

-- Lists: an index may be past the end.
pub length-of : length members ≡ 3
length-of = refl

pub joined : members ++ (1 ∷ 2 ∷ []) ≡ 7 ∷ 8 ∷ 9 ∷ 1 ∷ 2 ∷ []
joined = refl

pub member : slice_index members 1 ≡ 8
member = refl

pub member-beyond : slice_index members 3 ≡ 0
member-beyond = refl

pub member-or : slice_index_or members 2 5 ≡ 9
member-or = refl

pub member-or-beyond : slice_index_or members 3 5 ≡ 5
member-or-beyond = refl

pub written : slice_set members 1 5 ≡ 7 ∷ 5 ∷ 9 ∷ []
written = refl

pub written-beyond : slice_set members 3 5 ≡ 7 ∷ 8 ∷ 9 ∷ []
written-beyond = refl

pub written-long : slice_index (slice_set (slice_set (replicate 70 1) 69 5) 68 6) 69 ≡ 5
written-long = refl

pub first-members : take 2 members ≡ 7 ∷ 8 ∷ []
first-members = refl

pub first-beyond : take 5 members ≡ members
first-beyond = refl

pub other-members : drop 2 members ≡ 9 ∷ []
other-members = refl

pub other-beyond : drop 5 members ≡ []
other-beyond = refl

pub backwards : reverse members ≡ 9 ∷ 8 ∷ 7 ∷ []
backwards = refl

pub repeated : replicate 3 (number 7) ≡ 7 ∷ 7 ∷ 7 ∷ []
repeated = refl

pub repeated-never : replicate 0 (number 7) ≡ []
repeated-never = refl

pub counted : range_with_len 5 3 ≡ 5 ∷ 6 ∷ 7 ∷ []
counted = refl

pub each-member : map (λ x. x * 2) (7 ∷ 8 ∷ []) ≡ 14 ∷ 16 ∷ []
each-member = refl

pub lists-joined : flat_map (λ x. replicate x x) (2 ∷ 0 ∷ 1 ∷ []) ≡ 2 ∷ 2 ∷ 1 ∷ []
lists-joined = refl

pub folded : fold (λ a x. a * 10 + x) 1 (2 ∷ 3 ∷ []) ≡ 123
folded = refl

pub folded-empty : fold (λ a x. a * 10 + x) 1 [] ≡ 1
folded-empty = refl

pub passing : filter (λ x. nat_lt x 9) (7 ∷ 9 ∷ 8 ∷ []) ≡ 7 ∷ 8 ∷ []
passing = refl

pub all-pass : list_all (λ x. nat_lt x 9) (7 ∷ 9 ∷ []) ≡ false
all-pass = refl

pub all-of-none : list_all (λ x. nat_lt x 9) [] ≡ true
all-of-none = refl

pub any-passes : list_any (λ x. nat_lt x 9) (9 ∷ 7 ∷ []) ≡ true
any-passes = refl

pub any-of-none : list_any (λ x. nat_lt x 9) [] ≡ false
any-of-none = refl

pub how-many : count_by (λ x. nat_lt x 9) (7 ∷ 9 ∷ 8 ∷ []) ≡ 2
how-many = refl

pub summed : sum_by (λ x. x * 2) (7 ∷ 8 ∷ []) ≡ 30
summed = refl

pub place : position (λ x. x == 9) (7 ∷ 9 ∷ 9 ∷ []) ≡ Some 1
place = refl

pub no-place : position (λ x. x == 9) (7 ∷ []) ≡ None
no-place = refl

pub place-or-length : position_or_len (λ x. x == 9) (7 ∷ 8 ∷ []) ≡ 2
place-or-length = refl

pub found : find (λ x. nat_lt 7 x) members ≡ Some 8
found = refl

pub not-found : find (λ x. nat_lt 9 x) (7 ∷ 8 ∷ []) ≡ None
not-found = refl

pub before : before_first (λ x. x == 9) (7 ∷ 9 ∷ 8 ∷ 9 ∷ []) ≡ 7 ∷ []
before = refl

pub before-none : before_first (λ x. x == 9) (7 ∷ 8 ∷ []) ≡ 7 ∷ 8 ∷ []
before-none = refl

pub after : after_first (λ x. x == 9) (7 ∷ 9 ∷ 8 ∷ 9 ∷ []) ≡ 8 ∷ 9 ∷ []
after = refl

pub after-none : after_first (λ x. x == 9) (7 ∷ 8 ∷ []) ≡ []
after-none = refl

pub parts : slice_split (λ x. x == 9) (7 ∷ 9 ∷ 9 ∷ 8 ∷ 9 ∷ []) ≡ (7 ∷ []) ∷ [] ∷ (8 ∷ []) ∷ [] ∷ []
parts = refl

pub parts-of-none : slice_split (λ x. x == 9) [] ≡ [] ∷ []
parts-of-none = refl

pub prefix : starts_with nat_eq members (7 ∷ 8 ∷ []) ≡ true
prefix = refl

pub prefix-longer : starts_with nat_eq (7 ∷ []) (7 ∷ 8 ∷ []) ≡ false
prefix-longer = refl

pub prefix-by-order : starts_with nat_lt (8 ∷ []) (7 ∷ []) ≡ true
prefix-by-order = refl

pub vector-length : array_vec_len (record { items = members }) ≡ 3
vector-length = refl

-- Options and results.
pub some : is_some (Some (number 7)) ≡ true
some = refl

pub none : is_none (Some (number 7)) ≡ false
none = refl

pub value-mapped : option_map (λ x. x + 1) (Some 7) ≡ Some 8
value-mapped = refl

pub none-mapped : option_map (λ x. x + 1) None ≡ None
none-mapped = refl

pub value-then : option_and_then (λ x. Some (x + 1)) (Some 7) ≡ Some 8
value-then = refl

pub none-then : option_and_then (λ x. Some (x + 1)) None ≡ None
none-then = refl

pub value-or : unwrap_or (Some (number 7)) 5 ≡ 7
value-or = refl

pub none-or : unwrap_or None (number 5) ≡ 5
none-or = refl

pub value-or-fault : ok_or (Some (number 7)) (number 5) ≡ Ok 7
value-or-fault = refl

pub none-or-fault : ok_or (find (nat_lt 9) members) (number 5) ≡ Err 5
none-or-fault = refl

-- Texts: lists of bytes.
pub text : codes "Az" ≡ 65 ∷ 122 ∷ []
text = refl

pub same-bytes : bytes_eq (codes "ab") (codes "ab") ≡ true
same-bytes = refl

pub prefix-not-same : bytes_eq (codes "ab") (codes "abc") ≡ false
prefix-not-same = refl

pub same-letters : str_eq_ignore_ascii_case (codes "aB@[") (codes "Ab@[") ≡ true
same-letters = refl

pub no-letters : str_eq_ignore_ascii_case (codes "@") (codes "`") ≡ false
no-letters = refl

pub digit : digit_value 57 ≡ 9
digit = refl

pub digit-capital : digit_value 90 ≡ 35
digit-capital = refl

pub digit-small : digit_value 97 ≡ 10
digit-small = refl

pub no-digit : digit_value 64 ≡ 36
no-digit = refl

pub no-digit-high : digit_value 178 ≡ 36
no-digit-high = refl

pub written-digit : digit_char 9 ≡ 57
written-digit = refl

pub written-letter : digit_char 10 ≡ 97
written-letter = refl

pub number-of-digits : digits_value 16 (codes "1aF") ≡ 431
number-of-digits = refl

pub number-of-nothing : digits_value 16 [] ≡ 0
number-of-nothing = refl

pub number-no-digit : digits_value 10 (codes "1-") ≡ 46
number-no-digit = refl

pub decimal-digits : decimal 1023 ≡ codes "1023"
unfolding digits
decimal-digits = refl

pub decimal-zero : decimal 0 ≡ codes "0"
unfolding digits
decimal-zero = refl

pub decimal-too-long : length (decimal (10 ^ 64)) ≡ 64
unfolding digits
decimal-too-long = refl

pub decimal-signed : signed_decimal (negsuc 9) ≡ codes "-10"
unfolding digits
decimal-signed = refl

pub decimal-unsigned : signed_decimal (pos 10) ≡ codes "10"
unfolding digits
decimal-unsigned = refl

pub line-ends : lines (codes "a\n\nb\r\n\rc\r") ≡ codes "a" ∷ [] ∷ codes "b" ∷ codes "\rc\r" ∷ []
line-ends = refl

pub line-of-nothing : lines [] ≡ []
line-of-nothing = refl

pub line-empty : lines (codes "\n") ≡ [] ∷ []
line-empty = refl

pub line-stripped : strip_carriage_return (codes "a\r\r") ≡ codes "a\r"
line-stripped = refl

pub line-nothing-stripped : strip_carriage_return [] ≡ []
line-nothing-stripped = refl

pub hexadecimal : encode_lower (0 ∷ 175 ∷ []) ≡ codes "00af"
unfolding encode_with
hexadecimal = refl

pub hexadecimal-too-great : encode_lower (256 ∷ []) ≡ 0 ∷ 48 ∷ []
unfolding encode_with
hexadecimal-too-great = refl

pub from-hexadecimal : decode_of (codes "00aF") ≡ Ok (0 ∷ 175 ∷ [])
unfolding decode_pairs
from-hexadecimal = refl

pub from-nothing : decode_of [] ≡ Ok []
unfolding decode_pairs
from-nothing = refl

pub from-odd : decode_of (codes "00a") ≡ Err OddLength
unfolding decode_pairs
from-odd = refl

pub from-no-digit : decode_of (codes "0g") ≡ Err (InvalidHexCharacter 103 1)
unfolding decode_pairs
from-no-digit = refl
