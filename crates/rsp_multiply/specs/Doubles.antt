-- Scaffolding of the code: twice a number of 32 bits, by its halves.
use Rattle.std.specs.Prelude.{ℕ, pos, ◌+◌, ◌%◌, nat_lt, int_lt, if◌then◌else◌}
use Rattle.rsp_numbers.specs.Numbers.{s16}

-- the halves of twice the number with high half h and low half l, modulo 2^32
abbrev pub doubled_high : ℕ → ℕ → ℕ
doubled_high h l = ((h + h) % 65536 + (if nat_lt 32767 l then 1 else 0)) % 65536

abbrev pub doubled_low : ℕ → ℕ
doubled_low l = (l + l) % 65536

-- the high plane of a doubled product, by the high half of the product and the middle plane
abbrev pub doubled_sign : ℕ → ℕ → ℕ
doubled_sign h m = if int_lt (pos 16382) (s16 h) then 0 else if nat_lt 32767 m then 65535 else 0
