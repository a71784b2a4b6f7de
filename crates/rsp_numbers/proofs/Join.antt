-- The parts of a joined accumulator.
use Rattle.std.proofs.Common.{◌≡◌, ℕ, ◌+◌, ◌-◌, ◌*◌, ◌^◌, ◌<◌, ◌≤◌, ℤ, pos, negsuc, arith, refl, inl, inr}
use Rattle.std.proofs.lemmas.Int.{ints}
use Rattle.std.proofs.lemmas.Bool.{cases_lt}
use Rattle.rsp_numbers.specs.Numbers.{join, high, middle, low, floor_div, modulo}
use Rattle.rsp_numbers.proofs.Wrap.{s48_is}

abbrev pub joined_number : ℕ → ℕ → ℕ → ℕ
joined_number h m l = h * 2 ^ 32 + m * 2 ^ 16 + l

pub join_small : (h m l : ℕ) → h < 32768 → m < 65536 → l < 65536 → join h m l ≡ pos (joined_number h m l)
unfolding join
join_small h m l a b c = s48_is _ _ 0 0 refl (omega (arith, ints)) (omega (arith, ints))

pub join_large : (h m l : ℕ) → 32768 ≤ h → h < 65536 → m < 65536 → l < 65536 → join h m l ≡ negsuc (2 ^ 48 - 1 - joined_number h m l)
unfolding join
join_large h m l n a b c = s48_is _ _ 0 1 (omega (arith, ints)) (omega (arith, ints)) (omega (arith, ints))

-- what holds of the two forms holds of each
pub by_sign : (P : ℤ → Type 0) (h m l : ℕ) → h < 65536 → m < 65536 → l < 65536
    → (h < 32768 → P (pos (joined_number h m l))) → (32768 ≤ h → P (negsuc (2 ^ 48 - 1 - joined_number h m l))) → P (join h m l)
by_sign P h m l a b c p q =
    elim (cases_lt h 32768) [
      | inl n ↦ rw (join_small h m l n b c) (p n)
      | inr n ↦ rw (join_large h m l n a b c) (q n)
    ]

pub high_join : (h m l : ℕ) → h < 65536 → m < 65536 → l < 65536 → high (join h m l) ≡ h
unfolding high
high_join h m l a b c = by_sign (λ x. modulo (floor_div x (2 ^ 32)) 65536 ≡ h) h m l a b c (λ n. omega arith) (λ n. omega arith)

pub middle_join : (h m l : ℕ) → h < 65536 → m < 65536 → l < 65536 → middle (join h m l) ≡ m
unfolding middle
middle_join h m l a b c = by_sign (λ x. modulo (floor_div x (2 ^ 16)) 65536 ≡ m) h m l a b c (λ n. omega arith) (λ n. omega arith)

pub low_join : (h m l : ℕ) → h < 65536 → m < 65536 → l < 65536 → low (join h m l) ≡ l
unfolding low
low_join h m l a b c = by_sign (λ x. modulo x 65536 ≡ l) h m l a b c (λ n. omega arith) (λ n. omega arith)
