-- Made by `tools/python rsp_tools.page_tables` of docs/data.
use Rattle.std.specs.Prelude.{ℕ, List, [], ◌∷◌, codes}

-- the names of the commands of scripts, except `end`
abbrev pub command_names : List (List ℕ)
command_names =
    codes "load" ∷ codes "asm" ∷ codes "step" ∷ codes "run" ∷ codes "break" ∷ codes "unbreak" ∷ codes "watch" ∷
    codes "unwatch" ∷ codes "back" ∷ codes "pc" ∷ codes "read" ∷ codes "write" ∷ codes "task" ∷ codes "regs" ∷
    codes "vregs" ∷ codes "acc" ∷ codes "flags" ∷ codes "sp" ∷ codes "mem" ∷ codes "dis" ∷ []

-- the numbers of the faults of replies, except those of assembly text
abbrev pub fault_numbers : List ℕ
fault_numbers = 4 ∷ 5 ∷ 6 ∷ 20 ∷ 21 ∷ 22 ∷ 23 ∷ 24 ∷ 25 ∷ 26 ∷ 27 ∷ 30 ∷ 31 ∷ 32 ∷ 33 ∷ []
