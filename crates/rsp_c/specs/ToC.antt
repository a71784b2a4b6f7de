-- Parts of the machine as C sees them.
use Rattle.std.specs.Prelude.{ℕ, ◌+◌, ◌-◌, ◌*◌, ◌≡◌, ◌≤◌, ℤ, List, ◌++◌, length, map, replicate, slice_index, Bool, if◌then◌else◌}
use Rattle.std.specs.List.{range_with_len}
use Rattle.std.specs.Simd.Lanes.{mask_l}
use Rattle.rsp_numbers.specs.Numbers.{number}
use Rattle.rsp_lanes.specs.Lanes.{each_lane}
use Rattle.rsp_acc.specs.Parts.{part_of}
use Rattle.rsp_acc.specs.declared.parts.Part.TheVariants as part
use Rattle.rsp_lanes.specs.declared.flags.Flags.{Flags}
use Rattle.rsp_divide.specs.declared.divider.Divider.{Divider}
use Rattle.rsp_memory.specs.Memory.{word_at}
use Rattle.rsp_syntax.specs.Disassembly.{disassembly}
use Rattle.rsp_debug.specs.declared.stop.Reason.{Reason}
use Rattle.rsp_debug.specs.declared.stop.Reason.TheVariants as why
use Rattle.rsp_debug.specs.declared.stop.Stop.{Stop}
use Rattle.rsp_debug.specs.declared.moves.MoveEnd.{MoveEnd}
use Rattle.rsp_debug.specs.declared.moves.MoveEnd.TheVariants as end
use Rattle.rsp_c.specs.declared.c_structs.RspStop.{RspStop}
use Rattle.rsp_c.specs.declared.c_structs.RspMove.{RspMove}
use Rattle.rsp_c.specs.declared.c_structs.RspAccumulators.{RspAccumulators}
use Rattle.rsp_c.specs.declared.c_structs.RspFlagBits.{RspFlagBits}
use Rattle.rsp_c.specs.declared.c_structs.RspDivideState.{RspDivideState}
use Rattle.rsp_c.specs.declared.c_structs.RspLine.{RspLine}
use Rattle.rsp_c.specs.declared.c_structs.RspAssembled.{RspAssembled}
use Rattle.rsp_c.specs.Answers.{fault_number}
use Rattle.rsp_syntax.specs.declared.fault.AsmFault.{AsmFault}

-- the number of a reason
abbrev pub reason_number : Reason → ℕ
reason_number why.Reserved = 0
reason_number why.Halted = 1
reason_number (why.Watched k) = 2
reason_number why.Break = 3
reason_number why.Limit = 4

-- the watch of a reason; of another reason 0
abbrev pub reason_watch : Reason → ℕ
reason_watch why.Reserved = 0
reason_watch why.Halted = 0
reason_watch (why.Watched k) = k
reason_watch why.Break = 0
reason_watch why.Limit = 0

-- the word of a reason, which is at pc in IMEM; of another reason 0
abbrev pub reason_word : Reason → ℕ → List ℕ → ℕ
reason_word why.Reserved pc imem = word_at imem pc
reason_word why.Halted pc imem = 0
reason_word (why.Watched k) pc imem = 0
reason_word why.Break pc imem = 0
reason_word why.Limit pc imem = 0

-- a flag as a number
abbrev pub bit : Bool → ℕ
bit b = if b then 1 else 0

-- a stop of a machine with this IMEM
abbrev pub c_stop : Stop → List ℕ → RspStop
c_stop s imem = record {
  reason = reason_number s.reason;
  steps = s.steps;
  watch = reason_watch s.reason;
  pc = s.pc;
  word = reason_word s.reason s.pc imem;
}

-- where a run stopped that also ends before moves, of a machine with this IMEM; before a move the reason is 5
abbrev pub c_move : MoveEnd → List ℕ → RspMove
c_move (end.Stop stop) imem = record { stop = c_stop stop imem; word = 0; number = 0; writes = 0; value = 0 }
c_move (end.Move steps pc r writes value) imem = record {
  stop = record { reason = 5; steps = steps; watch = 0; pc = pc; word = 0 };
  word = word_at imem pc;
  number = r;
  writes = bit writes;
  value = value;
}

-- the high, the middle and the low 16 bits of each accumulator
abbrev pub c_accumulators : List ℤ → RspAccumulators
c_accumulators accumulators = record {
  high = each_lane (λ i. part_of part.High (number accumulators i));
  middle = each_lane (λ i. part_of part.Middle (number accumulators i));
  low = each_lane (λ i. part_of part.Low (number accumulators i));
}

-- the flags, bit i for lane i
abbrev pub c_flags : Flags → RspFlagBits
c_flags f = record { carry = mask_l f.carry; differ = mask_l f.differ; compare = mask_l f.compare; clip = mask_l f.clip; extra = mask_l f.extra }

abbrev pub c_divider : Divider → RspDivideState
c_divider d = record { input = d.input; output = d.output; loaded = bit d.loaded }

-- the word at an address, with its disassembly and zeros after it
abbrev pub c_line : ℕ → ℕ → RspLine
c_line word address = record {
  word = word;
  address = address;
  len = length (disassembly word address);
  text = disassembly word address ++ replicate (68 - length (disassembly word address)) 0;
}

-- a text has at most 64 bytes, and a zero after it
abbrev pub IsEnded : RspLine → Type 0
IsEnded l = (l.len ≤ 64) × (slice_index l.text l.len ≡ 0)

-- the n words of IMEM from an address on
unfoldable pub c_lines : List ℕ → ℕ → ℕ → List RspLine
c_lines imem address n = map (λ i. c_line (word_at imem (address + 4 * i)) (address + 4 * i)) (range_with_len 0 n)

-- the report on an assembly: how many words there are; a fault of the text; no memory for the label of a line; bytes that are no UTF-8
abbrev pub assembled_words : ℕ → RspAssembled
assembled_words n = record { count = n; line = 0; fault = 0 }

abbrev pub assembled_fault : AsmFault → RspAssembled
assembled_fault f = record { count = 0; line = f.line; fault = fault_number f.kind }

abbrev pub assembled_no_memory : ℕ → RspAssembled
assembled_no_memory line = record { count = 0; line = line; fault = 17 }

abbrev pub assembled_no_text : RspAssembled
assembled_no_text = record { count = 0; line = 0; fault = 33 }
