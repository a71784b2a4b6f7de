-- The sixteen bytes of a register: byte 0 is the high byte of lane 0, byte 15 the low byte of lane 7.
use Rattle.std.specs.Prelude.{ℕ, ◌≡◌, ◌<◌, ◌+◌, ◌-◌, ◌*◌, ◌/◌, ◌%◌, ◌&&◌, nat_le, nat_lt, if◌then◌else◌, List, [], ◌∷◌, length, slice_index}
use Rattle.rsp_lanes.specs.Lanes.{each_lane, register_byte}

-- sixteen numbers below 256
abbrev pub IsBytes : List ℕ → Type 0
IsBytes v = (length v ≡ 16) × ((i : ℕ) → slice_index v i < 256)

-- the list of sixteen whose member k is `f k`
unfoldable pub each_byte : (ℕ → ℕ) → List ℕ
each_byte f =
    f 0 ∷ f 1 ∷ f 2 ∷ f 3 ∷ f 4 ∷ f 5 ∷ f 6 ∷ f 7 ∷ f 8 ∷ f 9 ∷ f 10 ∷ f 11 ∷ f 12 ∷ f 13 ∷ f 14 ∷ f 15 ∷ []

-- the register whose byte k is `f k`
unfoldable pub of_bytes : (ℕ → ℕ) → List ℕ
of_bytes f = each_lane (λ i. f (2 * i) * 256 + f (2 * i + 1))

-- the register v with the first n bytes of a list written over its bytes from byte i on, as far as there are
abbrev pub with_register_bytes : List ℕ → List ℕ → ℕ → ℕ → List ℕ
with_register_bytes v source i n =
    of_bytes (λ k. if nat_le i k && nat_lt k (i + n) then slice_index source (k - i) else register_byte v k)

-- for j below 8 the high byte of lane j, else bits 14 to 7 of lane j - 8
abbrev pub packed_byte : List ℕ → ℕ → ℕ
packed_byte v j = if nat_lt j 8 then slice_index v j / 256 else slice_index v (j - 8) / 128 % 256
