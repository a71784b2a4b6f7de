-- The clamps, decided from the high and middle planes.
use Rattle.std.proofs.Common.{◌≡◌, ℕ, ◌+◌, ◌-◌, ◌*◌, ◌^◌, ◌<◌, ◌≤◌, ℤ, pos, negsuc, arith, ap, sym, nat_lt, nat_eq, Bool, cond, subst}
use Rattle.std.proofs.lemmas.Bool.Decides.{nat_tests}
use Rattle.rsp_numbers.specs.Numbers.{join, clamp16, sixteen_bits, floor_div}
use Rattle.rsp_acc.specs.Parts.{clamp_of, clamp_by}
use Rattle.rsp_acc.specs.declared.parts.Clamp.TheVariants.{Signed, Unsigned, LowKind}
use Rattle.rsp_numbers.proofs.Join.{by_sign, low_join, joined_number}

-- whether the planes are those of a number from -32768 to 32767
abbrev pub fits : ℕ → ℕ → Bool
fits h m = nat_eq h (cond (nat_lt 32767 m) 65535 0)

pub clamp16_pos : (u : ℕ) → clamp16 (pos u) ≡ pos (cond (nat_lt u 32768) u 32767)
unfolding clamp16
clamp16_pos u = grind (arith, nat_tests)

pub clamp16_negsuc : (u : ℕ) → clamp16 (negsuc u) ≡ negsuc (cond (nat_lt u 32768) u 32767)
unfolding clamp16
clamp16_negsuc u = grind (arith, nat_tests)

-- the number without its low sixteen bits
upper_pos : (h m l : ℕ) → l < 65536 → floor_div (pos (joined_number h m l)) 65536 ≡ pos (h * 65536 + m)
upper_pos h m l c = ap pos (omega arith)

upper_negsuc : (h m l : ℕ) → h < 65536 → m < 65536 → l < 65536 → floor_div (negsuc (2 ^ 48 - 1 - joined_number h m l)) 65536 ≡ negsuc (2 ^ 32 - 1 - (h * 65536 + m))
upper_negsuc h m l a b c = ap negsuc (omega arith)

-- what holds of the two forms of that number holds of each
by_upper : (P : ℤ → Type 0) (h m l : ℕ) → h < 65536 → m < 65536 → l < 65536
    → (h < 32768 → P (pos (h * 65536 + m))) → (32768 ≤ h → P (negsuc (2 ^ 32 - 1 - (h * 65536 + m)))) → P (floor_div (join h m l) 65536)
by_upper P h m l a b c p q = by_sign (λ x. P (floor_div x 65536)) h m l a b c (λ n. subst P (sym (upper_pos h m l c)) (p n)) (λ n. subst P (sym (upper_negsuc h m l a b c)) (q n))

pub clamp_signed : (h m l : ℕ) → h < 65536 → m < 65536 → l < 65536 → cond (fits h m) m (cond (nat_lt 32767 h) 32768 32767) ≡ clamp_of Signed (join h m l)
unfolding clamp_of
clamp_signed h m l a b c = by_upper (λ x. cond (fits h m) m (cond (nat_lt 32767 h) 32768 32767) ≡ sixteen_bits (clamp16 x)) h m l a b c
    (λ n. rw (clamp16_pos (h * 65536 + m)) (grind (arith, nat_tests)))
    (λ n. rw (clamp16_negsuc (2 ^ 32 - 1 - (h * 65536 + m))) (grind (arith, nat_tests)))

pub clamp_unsigned : (h m l : ℕ) → h < 65536 → m < 65536 → l < 65536 → cond (nat_lt 32767 h) 0 (cond (fits h m) m 65535) ≡ clamp_of Unsigned (join h m l)
unfolding clamp_of
clamp_unsigned h m l a b c = by_upper (λ x. cond (nat_lt 32767 h) 0 (cond (fits h m) m 65535) ≡ clamp_by Unsigned x 0) h m l a b c (λ n. grind (arith, nat_tests)) (λ n. grind (arith, nat_tests))

pub clamp_low : (h m l : ℕ) → h < 65536 → m < 65536 → l < 65536 → cond (fits h m) l (cond (nat_lt 32767 h) 0 65535) ≡ clamp_of LowKind (join h m l)
unfolding clamp_of
clamp_low h m l a b c = rw (low_join h m l a b c) (by_upper (λ x. cond (fits h m) l (cond (nat_lt 32767 h) 0 65535) ≡ clamp_by LowKind x l) h m l a b c (λ n. grind (arith, nat_tests)) (λ n. grind (arith, nat_tests)))
