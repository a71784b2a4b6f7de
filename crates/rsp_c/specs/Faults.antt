-- Which field of a state no machine can have.
use Rattle.std.specs.Prelude.{ℕ, ◌+◌, ◌*◌, ◌/◌, ◌%◌, ◌==◌, ◌&&◌, not, nat_le, Bool, List, slice_index, Option, Some, None, is_none, if◌then◌else◌}
use Rattle.rsp_machine.specs.Registers.{is_whole}
use Rattle.rsp_c.specs.declared.c_structs.RspSpWords.{RspSpWords}
use Rattle.rsp_c.specs.declared.c_structs.RspState.{RspState}

-- the first SP register from which its word can't be read
abbrev pub sp_word_fault : List ℕ → Option ℕ
sp_word_fault w =
    let status = slice_index w 4 in
    if not (is_whole 8 8192 (slice_index w 0)) then Some 0
    else if not (is_whole 8 16777216 (slice_index w 1)) then Some 1
    else if not (slice_index w 2 % 1048576 == 4088 && is_whole 8 4096 (slice_index w 2 / 1048576)) then Some 2
    else if not (slice_index w 3 == slice_index w 2) then Some 3
    else if not (status == status % 4 + status / 32 % 1024 * 32) then Some 4
    else if not (slice_index w 5 == 0) then Some 5
    else if not (slice_index w 6 == 0) then Some 6
    else if not (nat_le (slice_index w 7) 1) then Some 7
    else None

-- whether SP registers and an interrupt flag can be those of a machine
abbrev pub are_sp : RspSpWords → Bool
are_sp g = is_none (sp_word_fault g.words) && nat_le g.interrupt 1

-- the number of an SP register among the fields of a state; of none it is 0
abbrev pub sp_field : Option ℕ → ℕ
sp_field None = 0
sp_field (Some n) = 16 + n

-- the number of the first field that no machine can have: 1 register 0, 2 the mark of DIV_IN, 3 pc, 4 npc, 5 the interrupt flag, 16 and
-- more the SP registers; 0 if there is none
abbrev pub state_fault : RspState → ℕ
state_fault g =
    if not (slice_index g.words 0 == 0) then 1
    else if not (nat_le g.divider.loaded 1) then 2
    else if not (is_whole 4 4096 g.pc) then 3
    else if not (is_whole 4 4096 g.npc) then 4
    else if not (nat_le g.interrupt 1) then 5
    else sp_field (sp_word_fault g.sp)
