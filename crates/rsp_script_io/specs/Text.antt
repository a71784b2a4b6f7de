-- Numbers as text, and texts of several parts.
use Rattle.std.specs.Prelude.{ℕ, zero, suc, ◌+◌, ◌/◌, ◌%◌, List, [], ◌∷◌, ◌++◌, nat_lt, if◌then◌else◌}
use Rattle.rsp_syntax.specs.Operands.{hex}

-- the lowest k hexadecimal digits of n, the highest first
unfoldable pub hex_text : ℕ → ℕ → List ℕ
hex_text k n = hex k n

-- the two decimal digits of a number below 100
abbrev pub two_digits : ℕ → List ℕ
two_digits n = (48 + n / 10) ∷ (48 + n % 10) ∷ []

-- the decimal digits of a number below 100, without leading zeros
abbrev pub short_decimal : ℕ → List ℕ
short_decimal n = if nat_lt n 10 then (48 + n) ∷ [] else two_digits n

-- the texts of 0, 1 and so on, n of them, one after the other
unfoldable pub each_text : (ℕ → List ℕ) → ℕ → List ℕ
each_text text zero = []
each_text text (suc n) = each_text text n ++ text n
