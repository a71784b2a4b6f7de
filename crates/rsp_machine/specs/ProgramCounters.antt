-- pc and npc apart from the rest of a machine: the loop of steps keeps them so, and writes them back at its end.
use Rattle.std.specs.Prelude.{ℕ}
use Rattle.rsp_machine.specs.State.{State}

pub record ProgramCounters : Type 0 where
  pub pc : ℕ  -- the address in IMEM of the next instruction
  pub npc : ℕ  -- and of the one after it

-- pc and npc of a state, and a state with others
abbrev pub counters_of : State → ProgramCounters
counters_of s = record { pc = s.pc; npc = s.npc }

abbrev pub with_counters : ProgramCounters → State → State
with_counters p s = record s { pc = p.pc; npc = p.npc }
