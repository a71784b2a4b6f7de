-- Hexadecimal digits.
use Rattle.std.proofs.Common.{◌≡◌, ap, ◌∙◌, ℕ, zero, suc, ◌+◌, ◌-◌, ◌/◌, ◌%◌, ◌≤◌, [], ◌∷◌, ◌++◌, length, length-append, take, drop, refl, arith}
use Rattle.std.proofs.lemmas.List.{take_all, drop_all, drop-append-le}
use Rattle.std.specs.Char.{digit_char}
use Rattle.rsp_syntax.specs.Operands.{hex}

pub length-hex : (k n : ℕ) → length (hex k n) ≡ k
length-hex zero n = refl
length-hex (suc k) n = omega (arith, length-append (hex k (n / 16)) (digit_char (n % 16) ∷ []), length-hex k (n / 16))

-- without its first j digits, a number has the digits of its lowest bits
drop-hex : (k j m n : ℕ) → m ≡ j + k → drop j (hex m n) ≡ hex k n
drop-hex zero j m n e = drop_all j (hex m n) (omega (arith, e, length-hex m n))
drop-hex (suc k) j zero n e = absurd (omega (arith, e))
drop-hex (suc k) j (suc m) n e =
    drop-append-le j (hex m (n / 16)) (digit_char (n % 16) ∷ []) (omega (arith, e, length-hex m (n / 16)))
    ∙ ap (λ t. t ++ digit_char (n % 16) ∷ []) (drop-hex k j m (n / 16) (omega (arith, e)))

-- the last k of eight digits
pub hex_last : (k n : ℕ) → k ≤ 8 → take (8 - (8 - k)) (drop (8 - k) (hex 8 n)) ≡ hex k n
hex_last k n h = rw (drop-hex k (8 - k) 8 n (omega arith)) (take_all _ (hex k n) (omega (arith, length-hex k n)))
