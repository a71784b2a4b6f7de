-- The sum of two accumulators, plane by plane.
use Rattle.std.proofs.Common.{◌≡◌, ℕ, ◌+◌, ◌*◌, ◌/◌, ◌%◌, ◌^◌, ◌<◌, ◌≤◌, pos, ◌+ℤ◌, arith, ap, ◌∙◌, nat_le, Bool, false}
use Rattle.std.proofs.lemmas.Int.{ints}
use Rattle.std.proofs.lemmas.Bool.Decides.{nat_tests}
use Rattle.rsp_lanes.specs.Lanes.{bit}
use Rattle.rsp_numbers.specs.Numbers.{join, s48}
use Rattle.rsp_numbers.proofs.Wrap.{s48_differs, s48_same}
use Rattle.rsp_numbers.proofs.Join.{joined_number}

-- a carry out of a sum is its quotient
bit_carry : (n : ℕ) → n < 131072 → bit (nat_le 65536 n) ≡ n / 65536
bit_carry n h = grind (arith, nat_tests)

-- the sum with its carries, as numbers
numbers_sum : (h m l h' m' l' c₁ c₂ : ℕ) → c₁ ≡ (l + l' + 0) / 65536 → c₂ ≡ (m + m' + c₁) / 65536
    → joined_number ((h + h' + c₂) % 65536) ((m + m' + c₁) % 65536) ((l + l' + 0) % 65536) + (h + h' + c₂) / 65536 * 2 ^ 48
    ≡ joined_number h m l + joined_number h' m' l'
numbers_sum h m l h' m' l' c₁ c₂ p q = omega arith

pub join_sum : (h m l h' m' l' : ℕ) → h < 65536 → m < 65536 → l < 65536 → h' < 65536 → m' < 65536 → l' < 65536 → (b₁ b₂ : Bool)
    → b₁ ≡ nat_le 65536 (l + l' + bit false) → b₂ ≡ nat_le 65536 (m + m' + bit b₁)
    → join ((h + h' + bit b₂) % 65536) ((m + m' + bit b₁) % 65536) ((l + l' + bit false) % 65536) ≡ s48 (join h m l +ℤ join h' m' l')
unfolding join
join_sum h m l h' m' l' a b c a' b' c' b₁ b₂ e₁ e₂ =
    let c₁ : bit b₁ ≡ (l + l' + 0) / 65536 = ap bit e₁ ∙ bit_carry (l + l' + 0) (omega arith) in
    let small : bit b₁ ≤ 1 = omega arith in
    let c₂ : bit b₂ ≡ (m + m' + bit b₁) / 65536 = ap bit e₂ ∙ bit_carry (m + m' + bit b₁) (omega arith) in
    let sum = numbers_sum h m l h' m' l' (bit b₁) (bit b₂) c₁ c₂ in
    let d = s48_differs (pos (joined_number h m l)) in
    let d' = s48_differs (pos (joined_number h' m' l')) in
    s48_same _ _ ((h + h' + bit b₂) / 65536 + d.0 + d'.0) (d.1 + d'.1) (omega (arith, ints, sum, d.2, d'.2))
