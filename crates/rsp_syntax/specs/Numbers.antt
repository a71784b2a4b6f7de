-- Numbers of any length, labels and expressions.
use Rattle.std.specs.Prelude.{ℕ, ◌==◌, nat_eq, nat_lt, nat_le, Bool, true, false, ◌&&◌, List, drop, length, slice_index, Option, Some, None, option_map, if◌then◌else◌, codes, ℤ, pos, neg_ℤ}
use Rattle.std.specs.List.{list_all, starts_with}
use Rattle.std.specs.Char.{digit_value}
use Rattle.std.specs.Str.Parse.{digits_value}
use Rattle.rsp_syntax.specs.declared.line_bytes.Boundary.TheVariants.{Plus, Minus}
use Rattle.rsp_syntax.specs.Chars.{is_name_start, is_name_byte, skip_blanks, trim}
use Rattle.rsp_syntax.specs.Cuts.{cut}

-- one or more digits of this radix
abbrev pub is_numeral : ℕ → List ℕ → Bool
is_numeral radix bs = nat_lt 0 (length bs) && list_all (λ c. nat_lt (digit_value c) radix) bs

abbrev pub numeral : ℕ → List ℕ → Option ℕ
numeral radix bs = if is_numeral radix bs then Some (digits_value radix bs) else None

-- a number without a sign: decimal digits, or 0x and hexadecimal digits
abbrev pub unsigned_of : List ℕ → Option ℕ
unsigned_of bs = if starts_with nat_eq bs (codes "0x") then numeral 16 (drop 2 bs) else numeral 10 bs

-- the same with an optional minus before it
abbrev pub signed_of : List ℕ → Option ℤ
signed_of bs =
    if slice_index bs 0 == 45 then option_map (λ n. neg_ℤ (pos n)) (unsigned_of (drop 1 bs))
    else option_map pos (unsigned_of bs)

-- a label's name: a letter or _, then letters, digits and _, at most 32 bytes in all
abbrev pub is_label : List ℕ → Bool
is_label bs = is_name_start (slice_index bs 0) && (list_all is_name_byte bs && nat_le (length bs) 32)

-- what an expression says: a number, or a label and the number to add to its address
pub record Expression : Type 0 where
  pub label : Option (List ℕ)
  pub offset : ℤ

abbrev pub plus : List ℕ → ℤ → Expression
plus name n = record { label = Some name; offset = n }

abbrev pub constant : ℤ → Expression
constant z = record { label = None; offset = z }

abbrev pub signed_number : Bool → ℕ → ℤ
signed_number negative n = if negative then neg_ℤ (pos n) else pos n

-- a label plus or minus a number, which has no sign of its own
abbrev pub label_and_number : List ℕ → Bool → List ℕ → Option Expression
label_and_number name negative bs =
    if is_label name then option_map (λ n. plus name (signed_number negative n)) (unsigned_of bs) else None

-- a label plus or minus a number, by the texts on the two sides of the sign; the other one if there is no sign
abbrev pub sides : Bool → Option (List ℕ × List ℕ) → Option Expression → Option Expression
sides negative None other = other
sides negative (Some p) other = label_and_number (trim p.0) negative (skip_blanks p.1)

abbrev pub number_or : Option ℤ → Option Expression → Option Expression
number_or (Some z) other = Some (constant z)
number_or None other = other

-- a label, a number, or a label plus or minus a number
abbrev pub expression_of : List ℕ → Option Expression
expression_of bs =
    if is_label bs then Some (plus bs (pos 0))
    else number_or (signed_of bs) (sides false (cut Plus bs) (sides true (cut Minus bs) None))
