-- Signed values of 16, 32 and 48 bits, and the high, middle and low parts of an accumulator.
use Rattle.std.specs.Prelude.{ℕ, ℤ, pos, negsuc, ◌+◌, ◌*◌, ◌/◌, ◌%◌, ◌^◌, ◌==◌, Bool, ◌+ℤ◌, ◌-ℤ◌, unsigned_abs, List, slice_index_or, length, ◌-◌, ◌≡◌, ◌≤ℤ◌, ◌<ℤ◌}
use Rattle.std.specs.Int.{int_rem_euclid, int_div_euclid, int_min, int_max, Width, cast_signed, w16, w32}

-- z divided by m, rounded toward minus infinity
abbrev pub floor_div : ℤ → ℕ → ℤ
floor_div z m = int_div_euclid z (pos m)

-- the number from 0 to m - 1 that differs from z by a multiple of m
abbrev pub modulo : ℤ → ℕ → ℕ
modulo z m = unsigned_abs (int_rem_euclid z (pos m))

-- the low sixteen bits of a number, a negative one in two's complement
abbrev pub sixteen_bits : ℤ → ℕ
sixteen_bits z = modulo z 65536

-- bits 31 to 16 of a number, a negative one in two's complement
abbrev pub upper_bits : ℤ → ℕ
upper_bits z = sixteen_bits (floor_div z 65536)

-- the sixteen bits of n, each inverted: n is below 2^16
abbrev pub complement : ℕ → ℕ
complement n = 65535 - n

-- the sixteen bits of -n: n is at most 2^16
abbrev pub negated : ℕ → ℕ
negated n = (65536 - n) % 65536

-- the signed value of 48 bits: the number from -2^47 to 2^47 - 1 that differs from z by a multiple of 2^48
unfoldable pub s48 : ℤ → ℤ
s48 z = pos (modulo (z +ℤ pos (2 ^ 47)) (2 ^ 48)) -ℤ pos (2 ^ 47)

-- the signed value of sixteen bits, n below 2^16: the number from -2^15 to 2^15 - 1 that differs from n by a multiple
-- of 2^16
abbrev pub s16 : ℕ → ℤ
s16 n = cast_signed w16 n

-- the signed value of 32 bits, n below 2^32: the number from -2^31 to 2^31 - 1 that differs from n by a multiple of
-- 2^32
abbrev pub s32 : ℕ → ℤ
s32 n = cast_signed w32 n

-- w bits, n below 2^w, sign-extended to 32 bits: the signed value modulo 2^32
abbrev pub sign_extended : Width → ℕ → ℕ
sign_extended w n = modulo (cast_signed w n) (2 ^ 32)

-- z clamped to -32768 .. 32767
unfoldable pub clamp16 : ℤ → ℤ
clamp16 z = int_max (negsuc 32767) (int_min (pos 32767) z)

-- the high sixteen bits of an accumulator x, bits 47 to 32: floor(x / 2^32) modulo 2^16
unfoldable pub high : ℤ → ℕ
high x = sixteen_bits (floor_div x (2 ^ 32))

-- the middle sixteen bits, 31 to 16: floor(x / 2^16) modulo 2^16
unfoldable pub middle : ℤ → ℕ
middle x = sixteen_bits (floor_div x (2 ^ 16))

-- the low sixteen bits, 15 to 0: x modulo 2^16
unfoldable pub low : ℤ → ℕ
low x = sixteen_bits x

-- the accumulator with these high, middle and low sixteen bits
unfoldable pub join : ℕ → ℕ → ℕ → ℤ
join h m l = s48 (pos (h * 2 ^ 32 + m * 2 ^ 16 + l))

-- whether bit i of a number is 1
abbrev pub bit_set : ℕ → ℕ → Bool
bit_set n i = n / 2 ^ i % 2 == 1

-- number i of a list; 0 after its end
abbrev pub number : List ℤ → ℕ → ℤ
number xs i = slice_index_or xs i (pos 0)

-- a number of 48 bits: from -2^47 to 2^47 - 1
abbrev pub IsNumber : ℤ → Type 0
IsNumber z = (negsuc (2 ^ 47 - 1) ≤ℤ z) × (z <ℤ pos (2 ^ 47))

-- eight numbers of 48 bits
abbrev pub AreNumbers : List ℤ → Type 0
AreNumbers xs = (length xs ≡ 8) × ((i : ℕ) → IsNumber (number xs i))
