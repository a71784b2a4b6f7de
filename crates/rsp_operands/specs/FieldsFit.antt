-- Scaffolding of the contracts: the fields of an operand fit in a word.
use Rattle.std.specs.Prelude.{ℕ, ◌<◌, ◌≤◌, ◌^◌, List, [], ◌∷◌}
use Rattle.rsp_decode.specs.Table.{Operand, bit_fields, with_fields}

-- each number has at most five bits
abbrev pub AllFiveBits : List ℕ → Type 0
AllFiveBits [] = Unit {0}
AllFiveBits (n ∷ ns) = (n ≤ 31) × AllFiveBits ns

-- the first of these fields of an operand is inside the word, and the others have at most five bits
abbrev pub FitWord : Operand → List ℕ → Type 0
FitWord k [] = Unit {0}
FitWord k (v ∷ vs) = (with_fields 0 (bit_fields k) (v ∷ []) < 2 ^ 32) × AllFiveBits vs
