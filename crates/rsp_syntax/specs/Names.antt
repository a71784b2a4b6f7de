-- Names of registers, and of elements of vector registers. Letters may be in either case.
use Rattle.std.specs.Prelude.{ℕ, ◌+◌, ◌-◌, ◌*◌, ◌==◌, nat_lt, nat_le, Bool, ◌&&◌, ◌||◌, List, [], ◌∷◌, drop, length, slice_index, Option, Some, None, if◌then◌else◌, codes, is_some}
use Rattle.std.specs.Str.{str_eq_ignore_ascii_case}

-- the number beside the first name of the list that the text is, in either case
abbrev pub look_up : List (List ℕ × ℕ) → List ℕ → Option ℕ
look_up [] bs = None
look_up (e ∷ es) bs = if str_eq_ignore_ascii_case bs e.0 then Some e.1 else look_up es bs

abbrev pub is_decimal : ℕ → Bool
is_decimal c = nat_le 48 c && nat_le c 57

abbrev pub below : ℕ → ℕ → Option ℕ
below limit n = if nat_lt n limit then Some n else None

-- a decimal number below this one: one digit, or two without a leading zero
abbrev pub small_number : ℕ → List ℕ → Option ℕ
small_number limit bs =
    if length bs == 1 && is_decimal (slice_index bs 0) then below limit (slice_index bs 0 - 48)
    else (if length bs == 2 && (nat_le 49 (slice_index bs 0) && (nat_le (slice_index bs 0) 57 && is_decimal (slice_index bs 1)))
    then below limit (10 * (slice_index bs 0 - 48) + (slice_index bs 1 - 48))
    else None)

abbrev pub numbered : List ℕ → ℕ → List ℕ × ℕ
numbered name n = (name, n)

-- the scalar registers with a name beside $0 to $31
abbrev pub scalar_names : List (List ℕ × ℕ)
scalar_names =
    numbered (codes "$zero") 0 ∷ numbered (codes "$at") 1
    ∷ numbered (codes "$a0") 4 ∷ numbered (codes "$a1") 5 ∷ numbered (codes "$a2") 6 ∷ numbered (codes "$a3") 7
    ∷ numbered (codes "$t0") 8 ∷ numbered (codes "$t1") 9 ∷ numbered (codes "$t2") 10 ∷ numbered (codes "$t3") 11
    ∷ numbered (codes "$t4") 12 ∷ numbered (codes "$t5") 13 ∷ numbered (codes "$t6") 14 ∷ numbered (codes "$t7") 15
    ∷ numbered (codes "$s0") 16 ∷ numbered (codes "$s1") 17 ∷ numbered (codes "$s2") 18 ∷ numbered (codes "$s3") 19
    ∷ numbered (codes "$s4") 20 ∷ numbered (codes "$s5") 21 ∷ numbered (codes "$s6") 22 ∷ numbered (codes "$s7") 23
    ∷ numbered (codes "$t8") 24 ∷ numbered (codes "$t9") 25 ∷ numbered (codes "$k0") 26 ∷ numbered (codes "$k1") 27
    ∷ numbered (codes "$gp") 28 ∷ numbered (codes "$sp") 29 ∷ numbered (codes "$fp") 30 ∷ numbered (codes "$s8") 30 ∷ numbered (codes "$ra") 31 ∷ []

-- the number of a scalar register: $0 to $31, or a name
abbrev pub scalar_named : List ℕ → Option ℕ
scalar_named bs =
    if slice_index bs 0 == 36 && is_some (small_number 32 (drop 1 bs)) then small_number 32 (drop 1 bs)
    else look_up scalar_names bs

-- the number of a vector register: $v0 to $v31
abbrev pub vector_named : List ℕ → Option ℕ
vector_named bs =
    if slice_index bs 0 == 36 && (slice_index bs 1 == 118 || slice_index bs 1 == 86) then small_number 32 (drop 2 bs) else None

-- the number of an SP register: $c0 to $c15
abbrev pub sp_named : List ℕ → Option ℕ
sp_named bs =
    if slice_index bs 0 == 36 && (slice_index bs 1 == 99 || slice_index bs 1 == 67) then small_number 16 (drop 2 bs) else None

abbrev pub control_names : List (List ℕ × ℕ)
control_names = numbered (codes "$vco") 0 ∷ numbered (codes "$vcc") 1 ∷ numbered (codes "$vce") 2 ∷ []

-- the number of a control register: $vco, $vcc or $vce
abbrev pub control_named : List ℕ → Option ℕ
control_named bs = look_up control_names bs

-- the elements of computing instructions, with the code that an instruction has for each
abbrev pub element_names : List (List ℕ × ℕ)
element_names =
    numbered (codes "v") 1 ∷ numbered (codes "0q") 2 ∷ numbered (codes "1q") 3
    ∷ numbered (codes "0h") 4 ∷ numbered (codes "1h") 5 ∷ numbered (codes "2h") 6 ∷ numbered (codes "3h") 7
    ∷ numbered (codes "0") 8 ∷ numbered (codes "1") 9 ∷ numbered (codes "2") 10 ∷ numbered (codes "3") 11
    ∷ numbered (codes "4") 12 ∷ numbered (codes "5") 13 ∷ numbered (codes "6") 14 ∷ numbered (codes "7") 15 ∷ []

-- the code of a computing instruction's element, by the text between the brackets
abbrev pub element_named : List ℕ → Option ℕ
element_named bs = look_up element_names bs
