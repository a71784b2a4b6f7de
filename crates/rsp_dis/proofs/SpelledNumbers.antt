-- The texts of numbers: each is read as its number, and has no byte at which a text is cut.
use Rattle.std.proofs.Common.{◌≡◌, refl, sym, ap, ◌∙◌, subst, ℕ, zero, suc, ◌*◌, ◌/◌, ◌%◌, ◌^◌, ◌<◌, ◌≤◌, List, [], ◌∷◌, ◌++◌, length, drop, get_or, Bool, true, false, not, ◌&&◌, arith, ℤ, pos, negsuc, lit<}
use Rattle.std.specs.Prelude.{Option, Some, None, ◌==◌, nat_lt, nat_le, nat_eq, option_map, decimal, neg_ℤ, codes, is_none, ◌+ℤ◌, Ok}
use Rattle.std.proofs.lemmas.Bool.Decides.{nat_tests}
use Rattle.std.specs.List.{list_all, starts_with}
use Rattle.std.specs.Int.Signed.{mag}
use Rattle.std.specs.Char.{digit_value, digit_char}
use Rattle.std.specs.Str.Parse.{digits_value, AllDigits}
use Rattle.std.specs.Fmt.{signed_decimal}
use Rattle.std.proofs.lemmas.Bool.{and_from, eqb-true, ne_eqb, lt-ltb, le-leb, and_right, cond-true, cond-false, agree_below, not-true}
use Rattle.std.proofs.lemmas.Int.Digits.{digits_value_push}
use Rattle.std.proofs.lemmas.Fmt.{digits_decimal, digits_value-decimal, decimal_nonempty, length_signed_le}
use Rattle.std.proofs.lemmas.Str.Parse.{numerals_by_value, tells_digits, IsNumeralModel, digit_from_value}
use Rattle.std.proofs.Math.Nat.{pow-suc}
use Rattle.std.proofs.lemmas.Int.{ints}
use Rattle.std.proofs.lemmas.Nat.{mod_below, div_below}
use Rattle.rsp_syntax.specs.declared.operand_range.OperandRange.{OperandRange}
use Rattle.rsp_syntax.specs.declared.line_bytes.Boundary.TheVariants.{Plus, Minus}
use Rattle.rsp_syntax.specs.Chars.{is_name_start, is_name_byte}
use Rattle.rsp_syntax.specs.Cuts.{cut}
use Rattle.rsp_syntax.specs.Numbers.{is_numeral, numeral, unsigned_of, signed_of, is_label, constant, sides, number_or, expression_of}
use Rattle.rsp_syntax.specs.Statement.{ranged_value, field, or_out_of_range, then_registers, fields_of, number_fails, half, branch, amount, jump, scaled_offset, word}
use Rattle.rsp_syntax.specs.Disassembly.{hex, small, signed_half, signed_scaled, target}
use Rattle.rsp_dis.specs.NoSeparators.{is_no_separator}
use Rattle.rsp_dis.proofs.Finite.{below, Said}
use Rattle.rsp_dis.proofs.Pieces.{is_piece, piece_of, all_append}

-- ---- a number as an operand's value

zero_plus : (z : ℤ) → pos 0 +ℤ z ≡ z
zero_plus (pos n) = ap pos (omega arith)
zero_plus (negsuc n) = omega (arith, ints)

-- what asks for a number that is in its range
pub number_fields : (range : OperandRange) (address : ℕ) (registers : List ℕ) (z : ℤ) (v : ℕ) → field range address z ≡ Some v → fields_of [] address (ranged_value range registers (constant z)) ≡ Ok (v ∷ registers)
number_fields range address registers z v found = ap (λ x. then_registers registers (or_out_of_range (field range address x))) (zero_plus z) ∙ ap (λ o. then_registers registers (or_out_of_range o)) found

pub number_fits : (range : OperandRange) (address : ℕ) (z : ℤ) (v : ℕ) → field range address z ≡ Some v → number_fails address (Some (range, constant z)) ≡ false
number_fits range address z v found = ap is_none found

pub number_said : (range : OperandRange) (address : ℕ) (registers : List ℕ) (z : ℤ) (v : ℕ) → field range address z ≡ Some v → Said address (Some (ranged_value range registers (constant z))) (v ∷ registers)
number_said range address registers z v found = record {
  reading = ranged_value range registers (constant z);
  is = refl;
  fields = number_fields range address registers z v found;
  fits = number_fits range address z v found;
}

-- ---- expressions

pub record IsNumber (z : ℤ) (bs : List ℕ) : Type 0 where
  pub reads : expression_of bs ≡ Some (constant z)
  pub piece : is_piece bs ≡ true
  pub no_parenthesis : list_all (λ c. not (c == 40)) bs ≡ true

number_expression : (bs : List ℕ) (z : ℤ) → is_name_start (get_or bs 0 0) ≡ false → signed_of bs ≡ Some z → expression_of bs ≡ Some (constant z)
number_expression bs z start reads =
    let other = sides false (cut Plus bs) (sides true (cut Minus bs) None) in
    cond-false (is_label bs) _ (number_or (signed_of bs) other) (ap (λ b. b && (list_all is_name_byte bs && nat_le (length bs) 32)) start)
    ∙ ap (λ o. number_or o other) reads

-- ---- signed decimal

own : IsNumeralModel (AllDigits 10) (digits_value 10)
own = numerals_by_value (AllDigits 10) tells_digits

digits_pass : (t : ℕ → Bool) → ((c : ℕ) → 48 ≤ c → c ≤ 57 → t c ≡ true) → (bs : List ℕ) → AllDigits 10 bs → list_all t bs ≡ true
digits_pass t pass [] h = refl
digits_pass t pass (c ∷ cs) h =
    let range = digit_from_value c h.0 in
    and_from _ _ (pass c (omega arith) (omega arith)) (digits_pass t pass cs h.1)

all_test : (radix : ℕ) (bs : List ℕ) → AllDigits radix bs → list_all (λ c. nat_lt (digit_value c) radix) bs ≡ true
all_test radix [] h = refl
all_test radix (c ∷ cs) h = and_from _ _ (lt-ltb _ _ h.0) (all_test radix cs h.1)

no_prefix : (bs : List ℕ) → AllDigits 10 bs → starts_with nat_eq bs (codes "0x") ≡ false
no_prefix [] h = refl
no_prefix (c ∷ []) h = and_right (48 == c) false refl
no_prefix (c ∷ d ∷ ds) h =
    ap (λ b. (48 == c) && (b && true)) (ne_eqb 120 d (λ e. let big : digit_value 120 < 10 = subst (λ x. digit_value x < 10) (sym e) h.1.0 in omega arith))
    ∙ and_right (48 == c) false refl

decimal_read : (n : ℕ) → n < 2 ^ 64 → unsigned_of (decimal n) ≡ Some n
decimal_read n lt =
    let digits = digits_decimal own n lt in
    let test : is_numeral 10 (decimal n) ≡ true = and_from _ _ (lt-ltb _ _ (decimal_nonempty n lt)) (all_test 10 (decimal n) digits) in
    cond-false (starts_with nat_eq (decimal n) (codes "0x")) (numeral 16 (drop 2 (decimal n))) (numeral 10 (decimal n)) (no_prefix (decimal n) digits)
    ∙ cond-true (is_numeral 10 (decimal n)) (Some (digits_value 10 (decimal n))) None test
    ∙ ap Some (digits_value-decimal own n lt)

not_minus : (bs : List ℕ) → AllDigits 10 bs → (get_or bs 0 0 == 45) ≡ false
not_minus [] h = refl
not_minus (c ∷ cs) h = ne_eqb c 45 (λ e. let big : digit_value 45 < 10 = subst (λ x. digit_value x < 10) e h.0 in omega arith)

no_start : (bs : List ℕ) → AllDigits 10 bs → is_name_start (get_or bs 0 0) ≡ false
no_start [] h = refl
no_start (c ∷ cs) h =
    let range = digit_from_value c h.0 in
    let t : not (is_name_start c) ≡ true = below (λ k. not (is_name_start k)) 58 refl c (omega arith) in
    not-true (is_name_start c) t

number_read : (n : ℕ) → n < 2 ^ 64 → signed_of (decimal n) ≡ Some (pos n)
number_read n lt =
    cond-false (get_or (decimal n) 0 0 == 45) (option_map (λ m. neg_ℤ (pos m)) (unsigned_of (drop 1 (decimal n)))) (option_map pos (unsigned_of (decimal n))) (not_minus (decimal n) (digits_decimal own n lt))
    ∙ ap (option_map pos) (decimal_read n lt)

digit_quiet : (c : ℕ) → 48 ≤ c → c ≤ 57 → is_no_separator c ≡ true
digit_quiet c low high = grind (arith, nat_tests)

digit_no_parenthesis : (c : ℕ) → 48 ≤ c → c ≤ 57 → not (c == 40) ≡ true
digit_no_parenthesis c low high = ap not (ne_eqb c 40 (λ e. omega arith))

pub signed_number : (z : ℤ) → mag z < 65536 → IsNumber z (signed_decimal z)
signed_number (pos n) lt =
    let fits : n < 2 ^ 64 = omega arith in
    let digits = digits_decimal own n fits in
    let long = length_signed_le 5 (pos n) (omega arith) (omega arith) in
    record {
      reads = number_expression (decimal n) (pos n) (no_start (decimal n) digits) (number_read n fits);
      piece = and_from _ _ (lt-ltb _ _ (decimal_nonempty n fits)) (and_from _ _ (le-leb _ _ (omega arith)) (digits_pass is_no_separator digit_quiet (decimal n) digits));
      no_parenthesis = digits_pass (λ c. not (c == 40)) digit_no_parenthesis (decimal n) digits;
    }
signed_number (negsuc n) lt =
    let fits : suc n < 2 ^ 64 = omega arith in
    let digits = digits_decimal own (suc n) fits in
    let long = length_signed_le 5 (negsuc n) (omega arith) (omega arith) in
    record {
      reads = number_expression (45 ∷ decimal (suc n)) (negsuc n) refl (ap (option_map (λ m. neg_ℤ (pos m))) (decimal_read (suc n) fits));
      piece = piece_of (signed_decimal (negsuc n)) (omega arith) (omega arith) (digits_pass is_no_separator digit_quiet (decimal (suc n)) digits);
      no_parenthesis = digits_pass (λ c. not (c == 40)) digit_no_parenthesis (decimal (suc n)) digits;
    }

-- ---- hexadecimal

digit_back : (d : ℕ) → d < 16 → digit_value (digit_char d) ≡ d
digit_back d lt = eqb-true _ _ (below (λ k. digit_value (digit_char k) == k) 16 refl d lt)

hex_value : (k n : ℕ) → n < 16 ^ k → digits_value 16 (hex k n) ≡ n
hex_value zero n lt = let z : n < 1 = lt in omega arith
hex_value (suc k) n lt =
    let up : n < 16 ^ k * 16 = rw pow-suc at lt in
    let r = hex_value k (n / 16) (div_below n 16 (16 ^ k) (lit< tt) up) in
    let d = digit_back (n % 16) (mod_below n 16 (lit< tt)) in
    digits_value_push 16 (hex k (n / 16)) (digit_char (n % 16)) ∙ omega (arith, r, d)

abbrev agree_digits : (ℕ → Bool) → Bool
agree_digits t = agree_below (λ d. t (digit_char d)) (λ _. true) 16

-- a test that every hexadecimal digit passes
pub hex_pass : (t : ℕ → Bool) → agree_digits t ≡ true → (k n : ℕ) → list_all t (hex k n) ≡ true
hex_pass t e zero n = refl
hex_pass t e (suc k) n =
    all_append t (hex k (n / 16)) _ (hex_pass t e k (n / 16))
    (and_from _ _ (below (λ d. t (digit_char d)) 16 e (n % 16) (mod_below n 16 (lit< tt))) refl)

pub hex_number : (k n : ℕ) → nat_lt 0 (length (hex k n)) ≡ true → length (hex k n) ≤ 18 → n < 16 ^ k → IsNumber (pos n) (codes "0x" ++ hex k n)
hex_number k n some short lt =
    let is_hex : is_numeral 16 (hex k n) ≡ true = and_from _ _ some (hex_pass (λ c. nat_lt (digit_value c) 16) refl k n) in
    let read : signed_of (codes "0x" ++ hex k n) ≡ Some (pos n) = ap (option_map pos) (cond-true (is_numeral 16 (hex k n)) (Some (digits_value 16 (hex k n))) None is_hex ∙ ap Some (hex_value k n lt)) in
    record {
      reads = number_expression (codes "0x" ++ hex k n) (pos n) refl read;
      piece = piece_of (codes "0x" ++ hex k n) (omega arith) (omega arith) (hex_pass is_no_separator refl k n);
      no_parenthesis = hex_pass (λ c. not (c == 40)) refl k n;
    }

-- ---- numbers below 32

abbrev is_pos_of : Option ℤ → ℕ → Bool
is_pos_of None n = false
is_pos_of (Some (pos m)) n = m == n
is_pos_of (Some (negsuc m)) n = false

pos_of : (o : Option ℤ) (n : ℕ) → is_pos_of o n ≡ true → o ≡ Some (pos n)
pos_of None n e = absurd cc
pos_of (Some (pos m)) n e = ap (λ k. Some (pos k)) (eqb-true m n e)
pos_of (Some (negsuc m)) n e = absurd cc

pub small_number : (n : ℕ) → n < 32 → IsNumber (pos n) (small n)
small_number n lt = record {
  reads = number_expression (small n) (pos n) (not-true _ (below (λ k. not (is_name_start (get_or (small k) 0 0))) 32 refl n lt)) (pos_of _ n (below (λ k. is_pos_of (signed_of (small k)) k) 32 refl n lt));
  piece = below (λ k. is_piece (small k)) 32 refl n lt;
  no_parenthesis = below (λ k. list_all (λ c. not (c == 40)) (small k)) 32 refl n lt;
}

-- ---- ranges

pub half_back : (v : ℕ) → v < 65536 → half (signed_half v) ≡ Some v
half_back v lt = grind (arith, nat_tests)

pub half_small : (v : ℕ) → v < 65536 → mag (signed_half v) < 65536
half_small v lt = grind (arith, nat_tests)

pub half_of : (v : ℕ) → v < 65536 → half (pos v) ≡ Some v
half_of v lt = cond-true (nat_lt v 65536) (Some v) None (lt-ltb _ _ lt)

pub word_of : (v : ℕ) → v < 4294967296 → word (pos v) ≡ Some v
word_of v lt = cond-true (nat_lt v 4294967296) (Some v) None (lt-ltb _ _ lt)

pub amount_of : (v : ℕ) → v < 32 → amount (pos v) ≡ Some v
amount_of v lt = cond-true (nat_lt v 32) (Some v) None (lt-ltb _ _ lt)

pub jump_back : (v : ℕ) → v < 1024 → jump (pos (4 * v)) ≡ Some v
jump_back v lt = grind (arith, nat_tests)

pub branch_back : (address v t : ℕ) → address % 4 ≡ 0 → address < 4096 → v < 65536 → target address v ≡ Some t → branch address (pos t) ≡ Some v
branch_back address v t aligned inside small e = grind (arith, nat_tests)

pub branch_below : (address v t : ℕ) → address < 4096 → v < 65536 → target address v ≡ Some t → t < 4096
branch_below address v t inside small e = grind (arith, nat_tests)

abbrev pub ScaledBack : ℕ → ℕ → Type 0
ScaledBack s v = (scaled_offset s (signed_scaled s v) ≡ Some v) × (mag (signed_scaled s v) < 65536)

pub by_1 : (v : ℕ) → v < 128 → ScaledBack 1 v
by_1 v lt = (grind (arith, nat_tests), grind (arith, nat_tests))

pub by_2 : (v : ℕ) → v < 128 → ScaledBack 2 v
by_2 v lt = (grind (arith, nat_tests), grind (arith, nat_tests))

pub by_4 : (v : ℕ) → v < 128 → ScaledBack 4 v
by_4 v lt = (grind (arith, nat_tests), grind (arith, nat_tests))

pub by_8 : (v : ℕ) → v < 128 → ScaledBack 8 v
by_8 v lt = (grind (arith, nat_tests), grind (arith, nat_tests))

pub by_16 : (v : ℕ) → v < 128 → ScaledBack 16 v
by_16 v lt = (grind (arith, nat_tests), grind (arith, nat_tests))
