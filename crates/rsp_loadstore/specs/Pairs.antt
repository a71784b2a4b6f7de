-- What the rules of vector loads and stores are written with: a pair for each number, quadwords and doublewords, the
-- sixteen bytes from a doubleword on, and the eight registers of LTV and STV.
use Rattle.std.specs.Prelude.{ℕ, ◌+◌, ◌-◌, ◌*◌, ◌/◌, ◌%◌, List, map}
use Rattle.std.specs.List.{range_with_len}

-- f 0, f 1, and so on up to f (n - 1), in this order
unfoldable pub for_each : {P : Type 0} → ℕ → (ℕ → P) → List P
for_each n f = map f (range_with_len 0 n)

-- the address of the quadword that an address is in
abbrev pub quadword_start : ℕ → ℕ
quadword_start a = a - a % 16

-- the address of the doubleword that an address is in
abbrev pub doubleword_start : ℕ → ℕ
doubleword_start a = a - a % 8

-- 8 for an address in the upper doubleword of its quadword, else 0
abbrev pub upper_half : ℕ → ℕ
upper_half a = a / 8 % 2 * 8

-- the address of byte k after a, among the sixteen bytes from a's doubleword on: after the last comes the first
abbrev pub wrapped_address : ℕ → ℕ → ℕ
wrapped_address a k = doubleword_start a + (a % 8 + k) % 16

-- the first of the eight registers of vt's group: $v0, $v8, $v16 or $v24
abbrev pub group_start : ℕ → ℕ
group_start vt = vt - vt % 8

-- e rounded down to an even number
abbrev pub down_to_even : ℕ → ℕ
down_to_even e = e - e % 2

-- k - n, modulo 16
abbrev pub minus_modulo_16 : ℕ → ℕ → ℕ
minus_modulo_16 k n = (k + 16 - n) % 16
