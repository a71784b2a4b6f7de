-- Runs of whole loads.
use Rattle.std.specs.Prelude.{ℕ, ◌≡◌, ◌+◌, ◌*◌, ◌%◌, ◌&&◌, Bool, true, nat_lt, List, [], ◌∷◌, map}
use Rattle.std.specs.List.{list_all}
use Rattle.rsp_decode.specs.declared.inst.Inst.{Inst}
use Rattle.rsp_scalar.specs.Registers.{register}
use Rattle.rsp_scalar.specs.Flow.{address_after}
use Rattle.rsp_loadstore.specs.File.{IsFile, with_vector}
use Rattle.rsp_machine.specs.State.{State}
use Rattle.rsp_microcode.specs.Runs.{ran_through, address_after_words}
use Rattle.rsp_microcode.specs.Lanes.{lqv, lanes_at, HasBytes}
use Rattle.rsp_microcode.specs.Reads.{Write, after_writes}

-- lqv $vt[0], 16 * offset($base)
pub record WholeLoad : Type 0 where
  pub vt : ℕ
  pub offset : ℕ
  pub base : ℕ

abbrev pub load : ℕ → ℕ → ℕ → WholeLoad
load vt offset base = record { vt = vt; offset = offset; base = base }

abbrev pub load_of : WholeLoad → Inst
load_of l = lqv l.vt l.offset l.base

-- its fields are those of a word whose offset isn't negative
abbrev pub load_fits : WholeLoad → Bool
load_fits l = nat_lt l.vt 32 && nat_lt l.offset 64

-- what they write: each register gets the lanes at its address
abbrev pub loaded : List WholeLoad → List ℕ → List ℕ → List (Write (List ℕ))
loaded [] memory r = []
loaded (l ∷ ls) memory r = (l.vt, lanes_at memory (register r l.base + 16 * l.offset)) ∷ loaded ls memory r

-- their addresses are multiples of 16
abbrev pub AreAllAligned : List WholeLoad → List ℕ → Type 0
AreAllAligned [] r = Unit {0}
AreAllAligned (l ∷ ls) r = (register r l.base % 16 ≡ 0) × AreAllAligned ls r

-- a run through loads from aligned addresses is these writes
abbrev pub RunsOfLoads : Type 0
RunsOfLoads = (ls : List WholeLoad) (s : State) → IsFile s.vectors → HasBytes s.dmem → s.npc ≡ address_after s.pc
    → list_all load_fits ls ≡ true → AreAllAligned ls s.registers
    → (ran_through (map load_of ls) s
    ≡ record s { pc = address_after_words ls s.pc; npc = address_after_words ls s.npc; vectors = after_writes with_vector (loaded ls s.dmem s.registers) s.vectors })
    × IsFile (after_writes with_vector (loaded ls s.dmem s.registers) s.vectors)
