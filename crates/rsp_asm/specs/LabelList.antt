-- Labels as they are listed.
use Rattle.std.specs.Prelude.{ℕ, ◌-◌, ◌++◌, List, length, replicate}
use Rattle.rsp_asm.specs.declared.labels.Label.{Label}

-- a name, which has at most 32 bytes, and an address as an entry of a list: the name, and zeros after it
abbrev pub listed : List ℕ × ℕ → Label
listed l = record { address = l.1; len = length l.0; name = l.0 ++ replicate (36 - length l.0) 0 }
