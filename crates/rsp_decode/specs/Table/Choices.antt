-- Scaffolding, for the contracts of private functions: how one match on a field chooses among rows. The instruction of a
-- word is defined in Words.antt.
use Rattle.std.specs.Prelude.{ℕ, ◌+◌, ◌*◌, ◌%◌, ◌^◌, ◌==◌, ◌&&◌, not, List, find, Option, None, option_map, if◌then◌else◌}
use Rattle.rsp_decode.specs.declared.inst.Inst.{Inst}
use Rattle.rsp_decode.specs.Table.BitFields.{value_at, whole}
use Rattle.rsp_decode.specs.Table.Rows.{Row, meaning_of}

-- the instruction of a word by the first of these rows that has the value
abbrev pub pick : List Row → ℕ → ℕ → Option Inst
pick rs value w = option_map (λ (r : Row). meaning_of r w) (find (λ (r : Row). r.value == value) rs)

-- the same for a vector load or store; operation 9 requires an element of 0 or 8
abbrev pub pick_by_operation : List Row → ℕ → ℕ → Option Inst
pick_by_operation rs o w =
    if (value_at w (whole 11 5) == 9) && not (value_at w (whole 7 4) % 8 == 0)
    then None
    else pick rs (o * 2 ^ 26 + value_at w (whole 11 5) * 2 ^ 11) w
