-- The bit fields of a word, and their values.
use Rattle.std.specs.Prelude.{◌≡◌, ℕ, ◌*◌, ◌/◌, ◌%◌, ◌^◌, ◌<◌, ◌≤◌, min, List, [], ◌∷◌, bit_or}

-- A bit field of a word: its lowest bit and its width. In a capped one a value above `most` is read as `most`. The value of
-- a stepped one has further low bits, which are 0 and not in the word.
pub data BitField : Type 0 where
  whole : ℕ → ℕ → BitField
  capped : ℕ → ℕ → ℕ → BitField
  stepped : ℕ → ℕ → ℕ → BitField

-- the value of a bit field in a word
abbrev pub value_at : ℕ → BitField → ℕ
value_at w (whole low width) = w / 2 ^ low % 2 ^ width
value_at w (capped low width most) = min most (w / 2 ^ low % 2 ^ width)
value_at w (stepped low width shift) = w / 2 ^ low % 2 ^ width * 2 ^ shift

-- a value in its bits of a word, and 0 elsewhere
abbrev pub at_bit_field : BitField → ℕ → ℕ
at_bit_field (whole low width) v = v * 2 ^ low
at_bit_field (capped low width most) v = v * 2 ^ low
at_bit_field (stepped low width shift) v = v / 2 ^ shift * 2 ^ low

-- the values that a bit field has in some word
abbrev pub FitsBitField : BitField → ℕ → Type 0
FitsBitField (whole low width) v = v < 2 ^ width
FitsBitField (capped low width most) v = (v < 2 ^ width) × (v ≤ most)
FitsBitField (stepped low width shift) v = (v / 2 ^ shift < 2 ^ width) × (v / 2 ^ shift * 2 ^ shift ≡ v)

-- a word with these values in these bit fields added
abbrev pub with_fields : ℕ → List BitField → List ℕ → ℕ
with_fields w [] values = w
with_fields w (p ∷ ps) [] = w
with_fields w (p ∷ ps) (v ∷ vs) = with_fields (bit_or w (at_bit_field p v)) ps vs

-- values that their bit fields have in some word
abbrev pub FitBitFields : List BitField → List ℕ → Type 0
FitBitFields [] [] = Unit {0}
FitBitFields [] (v ∷ vs) = ⊥
FitBitFields (p ∷ ps) [] = ⊥
FitBitFields (p ∷ ps) (v ∷ vs) = FitsBitField p v × FitBitFields ps vs
