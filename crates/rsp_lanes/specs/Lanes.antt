-- Registers and masks of eight lanes, as lists.
use Rattle.std.specs.Prelude.{ℕ, ℤ, pos, negsuc, ◌+◌, ◌-◌, ◌*◌, ◌/◌, ◌%◌, ◌<◌, ◌==◌, slice_set, nat_lt, if◌then◌else◌, ◌≡◌, Bool, true, false, cond, List, [], ◌∷◌, length, slice_index, map}
use Rattle.std.specs.Int.{is_negative}

-- the list of eight whose member i is `f i`
unfoldable pub each_lane : {X : Type 0} → (ℕ → X) → List X
each_lane f = f 0 ∷ f 1 ∷ f 2 ∷ f 3 ∷ f 4 ∷ f 5 ∷ f 6 ∷ f 7 ∷ []

-- eight numbers of sixteen bits
abbrev pub IsVector : List ℕ → Type 0
IsVector v = (length v ≡ 8) × ((i : ℕ) → slice_index v i < 65536)

-- a lane of a mask: all ones if it is set, else 0
abbrev pub mask_lane : Bool → ℤ
mask_lane b = cond b (negsuc 0) (pos 0)

-- the lanes of a mask as truth values
abbrev pub truth_values : List ℤ → List Bool
truth_values m = map is_negative m

-- eight lanes, each all ones or 0
abbrev pub IsMask : List ℤ → Type 0
IsMask m = (length m ≡ 8) × (map mask_lane (truth_values m) ≡ m)

-- 1 if it is set, else 0
abbrev pub bit : Bool → ℕ
bit b = cond b 1 0

-- whether just one of the two is set
abbrev pub bool_xor : Bool → Bool → Bool
bool_xor x y = cond x (cond y false true) y

-- the lane of vt that the element e selects for lane i: lane i itself, one of its pair, one of its four, or one for all
-- lanes
abbrev pub source_lane : ℕ → ℕ → ℕ
source_lane e i =
    if nat_lt e 2 then i
    else if nat_lt e 4 then (i - i % 2) + (e - 2)
    else if nat_lt e 8 then (i - i % 4) + (e - 4)
    else e - 8

-- the operand that the element e selects from the register v
abbrev pub selected : List ℕ → ℕ → List ℕ
selected v e = each_lane (λ i. slice_index v (source_lane e i))

-- byte i of a register: byte 0 is the high byte of lane 0, byte 15 the low byte of lane 7
unfoldable pub register_byte : List ℕ → ℕ → ℕ
register_byte v i = if i % 2 == 0 then slice_index v (i / 2) / 256 else slice_index v (i / 2) % 256

-- the register after a write of byte i
unfoldable pub with_register_byte : List ℕ → ℕ → ℕ → List ℕ
with_register_byte v i b =
    slice_set v (i / 2) (if i % 2 == 0 then b * 256 + slice_index v (i / 2) % 256 else slice_index v (i / 2) / 256 * 256 + b)
