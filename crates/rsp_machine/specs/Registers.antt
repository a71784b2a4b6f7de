-- All registers at once: all of a state but its memories.
use Rattle.std.specs.Prelude.{ℕ, ◌≡◌, ◌%◌, ◌==◌, ◌&&◌, not, nat_lt, if◌then◌else◌, Bool, slice_index, Option, Some, None}
use Rattle.rsp_lanes.specs.Lanes.{each_lane}
use Rattle.rsp_numbers.specs.Numbers.{number, high, middle, low}
use Rattle.rsp_acc.specs.Planes.{joined}
use Rattle.rsp_regs.specs.Parts.{parts_of, sp_of}
use Rattle.rsp_regs.specs.Sp.{AreSpRanges}
use Rattle.rsp_regs.specs.declared.parts.SpParts.{SpParts}
use Rattle.rsp_machine.specs.State.{State, IsInstructionAddress, IsState}
use Rattle.rsp_machine.specs.declared.registers.AllRegisters.{AllRegisters}
use Rattle.rsp_machine.specs.declared.registers.RegistersFault.{RegistersFault}
use Rattle.rsp_machine.specs.declared.registers.RegistersFault.TheVariants.{Place, RegisterZero, MemoryAddress, DramAddress, Skip}

-- the registers of a state
unfoldable pub registers_of : State → AllRegisters
registers_of s = record {
  pc = s.pc;
  npc = s.npc;
  registers = s.registers;
  vectors = s.vectors;
  accumulators_high = each_lane (λ i. high (number s.accumulators i));
  accumulators_middle = each_lane (λ i. middle (number s.accumulators i));
  accumulators_low = each_lane (λ i. low (number s.accumulators i));
  flags = s.flags;
  divider = s.divider;
  sp = parts_of s.sp;
}

-- the state with these registers, and with the memories of another
unfoldable pub with_registers : AllRegisters → State → State
with_registers r s = record s {
  pc = r.pc;
  npc = r.npc;
  registers = r.registers;
  vectors = r.vectors;
  accumulators = joined r.accumulators_high r.accumulators_middle r.accumulators_low;
  flags = r.flags;
  divider = r.divider;
  sp = sp_of r.sp;
}

-- the ranges of registers that a machine can have; flags, lanes and the parts of accumulators can be any
pub record AreRegisters (r : AllRegisters) : Type 0 where
  pub pc : IsInstructionAddress r.pc
  pub npc : IsInstructionAddress r.npc
  pub zero : slice_index r.registers 0 ≡ 0
  pub sp : AreSpRanges r.sp.memory r.sp.dram r.sp.skip

-- whether n is a multiple of `step` and below `limit`
abbrev pub is_whole : ℕ → ℕ → ℕ → Bool
is_whole step limit n = nat_lt n limit && (n % step == 0)

-- why SP registers aren't those of a machine: the first reason that holds
abbrev pub sp_fault : SpParts → Option RegistersFault
sp_fault p =
    if not (is_whole 8 8192 p.memory) then Some MemoryAddress
    else if not (is_whole 8 16777216 p.dram) then Some DramAddress
    else if not (is_whole 8 4096 p.skip) then Some Skip
    else None

-- why registers aren't those of a machine: the first reason that holds
abbrev pub registers_fault : AllRegisters → Option RegistersFault
registers_fault r =
    if not (is_whole 4 4096 r.pc && is_whole 4 4096 r.npc) then Some Place
    else if not (slice_index r.registers 0 == 0) then Some RegisterZero
    else sp_fault r.sp

-- The registers of a machine's state have no fault, and setting them again leaves the state as it is.
abbrev pub SetAsRead : Type 0
SetAsRead = (s : State) → IsState s → (registers_fault (registers_of s) ≡ None) × (with_registers (registers_of s) s ≡ s)
