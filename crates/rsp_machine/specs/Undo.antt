-- What a record saves of the state before a step, and how it undoes the step: for the debugger. What an instruction does is in Step.
use Rattle.std.specs.Prelude.{ℕ, ℤ, pos, ◌+◌, false, if◌then◌else◌, List, [], ◌∷◌, Option, Some, None, replicate, slice_index_or}
use Rattle.rsp_decode.specs.declared.inst.Inst.{Inst}
use Rattle.rsp_decode.specs.Table.{inst_of}
use Rattle.rsp_lanes.specs.Lanes.{each_lane}
use Rattle.rsp_lanes.specs.declared.flags.Flags.{Flags}
use Rattle.rsp_lanes.specs.Flags.{no_flags}
use Rattle.rsp_acc.specs.Planes.{with_low, low_lanes}
use Rattle.rsp_divide.specs.declared.divider.Divider.{Divider}
use Rattle.rsp_divide.specs.Dividers.{no_divider}
use Rattle.rsp_memory.specs.Memory.{word_at, bytes_at, with_bytes}
use Rattle.rsp_regs.specs.Sp.{Sp, start}
use Rattle.rsp_scalar.specs.Registers.{register, with_register}
use Rattle.rsp_loadstore.specs.File.{vector, with_vector}
use Rattle.rsp_machine.specs.State.{State}
use Rattle.rsp_machine.specs.Footprint.{footprint_of, makes_no_dma}
use Rattle.rsp_machine.specs.declared.footprint.Footprint.{Footprint}
use Rattle.rsp_machine.specs.declared.footprint.Footprint.TheVariants as of

-- What one step saved: values as they were before it. `footprint` says which of them count.
pub record Saved : Type 0 where
  pub pc : ℕ
  pub footprint : Footprint
  pub word : ℕ  -- the scalar register
  pub bytes : List ℕ
  pub vector : List ℕ
  pub vectors : List (List ℕ)
  pub accumulators : List ℤ  -- only the low sixteen bits count if the instruction writes the low accumulators alone
  pub flags : Flags
  pub divider : Divider
  pub sp : Sp

-- the record of no step
unfoldable pub blank : Saved
blank = record {
  pc = 0;
  footprint = of.Dma;
  word = 0;
  bytes = replicate 16 0;
  vector = each_lane (λ _. 0);
  vectors = replicate 8 (each_lane (λ _. 0));
  accumulators = each_lane (λ _. pos 0);
  flags = no_flags;
  divider = no_divider;
  sp = start;
}

-- the eight vector registers from n on, and a file after eight registers were written from n on
abbrev pub group_at : List (List ℕ) → ℕ → List (List ℕ)
group_at file n = vector file n ∷ vector file (n + 1) ∷ vector file (n + 2) ∷ vector file (n + 3) ∷ vector file (n + 4) ∷ vector file (n + 5) ∷ vector file (n + 6) ∷ vector file (n + 7) ∷ []

abbrev pub with_group : List (List ℕ) → ℕ → List (List ℕ) → List (List ℕ)
with_group file n vs =
    let half = with_vector (with_vector (with_vector (with_vector file n (vector vs 0)) (n + 1) (vector vs 1)) (n + 2) (vector vs 2)) (n + 3) (vector vs 3) in
    with_vector (with_vector (with_vector (with_vector half (n + 4) (vector vs 4)) (n + 5) (vector vs 5)) (n + 6) (vector vs 6)) (n + 7) (vector vs 7)

-- flags with the VCO of `old`, and flags with its VCO and VCC
abbrev pub with_vco : Flags → Flags → Flags
with_vco old f = record f { carry = old.carry; differ = old.differ }

abbrev pub with_vco_and_vcc : Flags → Flags → Flags
with_vco_and_vcc old f = record (with_vco old f) { compare = old.compare; clip = old.clip }

-- accumulators whose low sixteen bits are those of `old`
abbrev pub with_low_of : List ℤ → List ℤ → List ℤ
with_low_of old xs = with_low xs (low_lanes old)

-- a record after it has saved the values that a footprint names
unfoldable pub values_saved : Footprint → State → Saved → Saved
values_saved (of.Register n) s r = record r { word = register s.registers n }
values_saved (of.Bytes a) s r = record r { bytes = bytes_at s.dmem a 16 }
values_saved (of.Vector n) s r = record r { vector = vector s.vectors n }
values_saved (of.Group n) s r = record r { vectors = group_at s.vectors n }
values_saved (of.Product n) s r = record r { vector = vector s.vectors n; accumulators = s.accumulators }
values_saved (of.Low n) s r = record r { vector = vector s.vectors n; accumulators = with_low_of s.accumulators r.accumulators }
values_saved (of.Sum n) s r = record r { vector = vector s.vectors n; accumulators = with_low_of s.accumulators r.accumulators; flags = with_vco s.flags r.flags }
values_saved (of.Choice n) s r = record r { vector = vector s.vectors n; accumulators = with_low_of s.accumulators r.accumulators; flags = with_vco_and_vcc s.flags r.flags }
values_saved (of.Clip n) s r = record r { vector = vector s.vectors n; accumulators = with_low_of s.accumulators r.accumulators; flags = s.flags }
values_saved (of.Divide n) s r = record r { vector = vector s.vectors n; accumulators = with_low_of s.accumulators r.accumulators; divider = s.divider }
values_saved of.Flags s r = record r { flags = s.flags }
values_saved (of.Sp n) s r = record r { word = register s.registers n; sp = s.sp }
values_saved _ s r = r

-- a record after an instruction with a footprint
unfoldable pub record_of : Footprint → State → Saved → Saved
record_of f s r = values_saved f s (record r { pc = s.pc; footprint = f })

-- A recorder after an instruction, if there is one, and after a step. It gets the instruction's footprint.
abbrev pub after_instruction : {K : Type 0} → (Footprint → State → K → K) → Option Inst → State → K → K
after_instruction saves None s k = k
after_instruction saves (Some i) s k = saves (footprint_of i s) s k

unfoldable pub after_step_from : {K : Type 0} → (Footprint → State → K → K) → State → K → K
after_step_from saves s k = if s.sp.halted then k else after_instruction saves (inst_of (word_at s.imem s.pc)) s k

-- vector register n and the accumulators, written back
abbrev pub with_product : ℕ → Saved → State → State
with_product n r s = record s { vectors = with_vector s.vectors n r.vector; accumulators = r.accumulators }

-- vector register n and the low accumulators, written back; the instruction left the other parts
abbrev pub with_low_part : ℕ → Saved → State → State
with_low_part n r s = record s { vectors = with_vector s.vectors n r.vector; accumulators = with_low_of r.accumulators s.accumulators }

-- what a footprint names, written back
unfoldable pub restored : Footprint → Saved → State → State
restored (of.Register n) r s = record s { registers = with_register s.registers n r.word }
restored (of.Bytes a) r s = record s { dmem = with_bytes s.dmem a r.bytes }
restored (of.Vector n) r s = record s { vectors = with_vector s.vectors n r.vector }
restored (of.Group n) r s = record s { vectors = with_group s.vectors n r.vectors }
restored (of.Product n) r s = with_product n r s
restored (of.Low n) r s = with_low_part n r s
restored (of.Sum n) r s = record (with_low_part n r s) { flags = with_vco r.flags s.flags }
restored (of.Choice n) r s = record (with_low_part n r s) { flags = with_vco_and_vcc r.flags s.flags }
restored (of.Clip n) r s = record (with_low_part n r s) { flags = r.flags }
restored (of.Divide n) r s = record (with_low_part n r s) { divider = r.divider }
restored of.Flags r s = record s { flags = r.flags }
restored (of.Sp n) r s = record s { registers = with_register s.registers n r.word; sp = r.sp }
restored _ r s = s

-- the state with this pc and npc, and not halted: a machine that steps isn't halted before, and its npc becomes its pc
abbrev pub before : ℕ → ℕ → State → State
before pc npc s = record s { pc = pc; npc = npc; sp = record s.sp { halted = false } }

-- the record of step i
abbrev pub record_at : List Saved → ℕ → Saved
record_at records i = slice_index_or records i blank

-- the state before the step, if the record undoes it; else nothing changes
unfoldable pub undone : Saved → State → State
undone r s = if makes_no_dma r.footprint then before r.pc s.pc (restored r.footprint r s) else s
