-- Registers of eight lanes in DMEM, and their whole loads and stores.
use Rattle.std.specs.Prelude.{ℕ, ◌≡◌, ◌<◌, ◌≤◌, ◌+◌, ◌-◌, ◌*◌, ◌%◌, List, [], ◌∷◌, length}
use Rattle.rsp_decode.specs.declared.inst.Inst.{Inst}
use Rattle.rsp_decode.specs.declared.inst.Inst.TheVariants.{VectorLoad, VectorStore}
use Rattle.rsp_decode.specs.declared.vector.VectorLoadOp.TheVariants.{Lqv}
use Rattle.rsp_decode.specs.declared.vector.VectorStoreOp.TheVariants.{Sqv}
use Rattle.rsp_memory.specs.Memory.{byte_at, half_at, with_half}
use Rattle.rsp_lanes.specs.Lanes.{each_lane}
use Rattle.rsp_scalar.specs.Registers.{register}
use Rattle.rsp_scalar.specs.Flow.{address_after}
use Rattle.rsp_loadstore.specs.File.{IsFile, vector, with_vector}
use Rattle.rsp_machine.specs.State.{State}
use Rattle.rsp_machine.specs.Step.{executed}

-- the eight lanes in DMEM from an address on: two bytes each, the high one first
unfoldable pub lanes_at : List ℕ → ℕ → List ℕ
lanes_at memory a = each_lane (λ i. half_at memory (a + 2 * i))

-- DMEM after numbers of sixteen bits were written, one after the other
abbrev pub with_halves : List ℕ → ℕ → List ℕ → List ℕ
with_halves memory a [] = memory
with_halves memory a (h ∷ hs) = with_halves (with_half memory a h) (a + 2) hs

-- DMEM after eight lanes were written from an address on
unfoldable pub with_lanes : List ℕ → ℕ → List ℕ → List ℕ
with_lanes memory a v = with_halves memory a v

-- the numbers of DMEM are bytes, as they are in every machine
abbrev pub HasBytes : List ℕ → Type 0
HasBytes memory = (a : ℕ) → byte_at memory a < 256

-- an address outside of the n bytes that begin at a; addresses count modulo 4096
abbrev pub IsOutside : ℕ → ℕ → ℕ → Type 0
IsOutside a n x = n ≤ (x + (4096 - a % 4096)) % 4096

-- lqv $vt[0], 16 * offset($base), and sqv $vt[0], 16 * offset($base)
abbrev pub lqv : ℕ → ℕ → ℕ → Inst
lqv vt offset base = VectorLoad Lqv (record { vt = vt; element = 0; offset = offset; base = base })

abbrev pub sqv : ℕ → ℕ → ℕ → Inst
sqv vt offset base = VectorStore Sqv (record { vt = vt; element = 0; offset = offset; base = base })

-- the address of either
abbrev pub lanes_address : ℕ → ℕ → State → ℕ
lanes_address offset base s = register s.registers base + 16 * offset

-- LQV from an aligned address loads the eight lanes there into the register
abbrev pub LoadsLanes : Type 0
LoadsLanes = (vt offset base : ℕ) (s : State) → IsFile s.vectors → vt < 32 → offset < 64 → register s.registers base % 16 ≡ 0
    → executed (lqv vt offset base) s
    ≡ record s { pc = s.npc; npc = address_after s.npc; vectors = with_vector s.vectors vt (lanes_at s.dmem (lanes_address offset base s)) }

-- SQV to an aligned address writes the register's eight lanes there
abbrev pub StoresLanes : Type 0
StoresLanes = (vt offset base : ℕ) (s : State) → length (vector s.vectors vt) ≡ 8 → offset < 64 → register s.registers base % 16 ≡ 0
    → executed (sqv vt offset base) s
    ≡ record s { pc = s.npc; npc = address_after s.npc; dmem = with_lanes s.dmem (lanes_address offset base s) (vector s.vectors vt) }
