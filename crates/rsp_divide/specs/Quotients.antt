-- The reciprocal and the inverse square root of a signed number of 32 bits.
-- Sources: Nintendo's RSP Programmer's Guide, chapter on vector unit instructions; the N64brew Wiki's page "Reality Signal Processor/CPU Core".
use Rattle.std.specs.Prelude.{ℕ, ℤ, pos, negsuc, ◌+◌, ◌-◌, ◌*◌, ◌/◌, ◌%◌, ◌^◌, ◌-ℤ◌, int_lt, unsigned_abs, if◌then◌else◌}
use Rattle.std.specs.Int.{leading_zeros, w32}
use Rattle.std.specs.Ordering.{int_eq}
use Rattle.rsp_divide.specs.Entries.{reciprocal_entry, root_entry}

-- the count of leading zeros in 32 bits
abbrev pub zeros : ℕ → ℕ
zeros y = leading_zeros w32 y

-- the nine bits below the leading one; zeros follow if y has fewer
abbrev pub nine_bits : ℕ → ℕ
nine_bits y = y * 2 ^ zeros y / 2 ^ 22 % 512

-- the nine bits, the lowest replaced by the parity of the count of leading zeros
abbrev pub root_index : ℕ → ℕ
root_index y = nine_bits y / 2 * 2 + zeros y % 2

-- an entry with its leading one, shifted right by m
abbrev pub scaled : ℕ → ℕ → ℕ
scaled entry m = (65536 + entry) * 2 ^ 14 / 2 ^ m

-- the reciprocal of a positive number
unfoldable pub reciprocal_bits : ℕ → ℕ
reciprocal_bits y = scaled (reciprocal_entry (nine_bits y)) (31 - zeros y)

-- the inverse square root of a positive number
unfoldable pub root_bits : ℕ → ℕ
root_bits y = scaled (root_entry (root_index y)) ((31 - zeros y) / 2)

-- the magnitude of a negative number; it counts one less below -32768
abbrev pub magnitude_of : ℤ → ℕ
magnitude_of x = if int_lt x (negsuc 32767) then unsigned_abs x - 1 else unsigned_abs x

-- the quotient of a signed number: 7FFFFFFF hex for 0, FFFF0000 hex for -32768, `bits` of a positive number; for
-- another negative number the complement of `bits` of its magnitude
abbrev pub quotient_of : (ℕ → ℕ) → ℤ → ℤ
quotient_of bits x =
    if int_eq x (pos 0) then pos 2147483647
    else if int_eq x (negsuc 32767) then negsuc 65535
    else if int_lt x (pos 0) then negsuc 0 -ℤ pos (bits (magnitude_of x))
    else pos (bits (unsigned_abs x))

-- the reciprocal of a signed number
abbrev pub reciprocal_of : ℤ → ℤ
reciprocal_of x = quotient_of reciprocal_bits x

-- the inverse square root of a signed number
abbrev pub inverse_root_of : ℤ → ℤ
inverse_root_of x = quotient_of root_bits x
