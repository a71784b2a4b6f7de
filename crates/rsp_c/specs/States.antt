-- All registers as C sees them, and back.
use Rattle.std.specs.Prelude.{ℕ, ◌/◌, ◌%◌, ◌==◌, List, [], ◌∷◌, slice_index, Bool}
use Rattle.rsp_loadstore.specs.Controls.{flags_of_bits}
use Rattle.rsp_regs.specs.Sp.{Sp, read_value}
use Rattle.rsp_regs.specs.declared.parts.SpParts.{SpParts}
use Rattle.rsp_machine.specs.declared.registers.AllRegisters.{AllRegisters}
use Rattle.rsp_c.specs.declared.c_structs.RspSpWords.{RspSpWords}
use Rattle.rsp_c.specs.declared.c_structs.RspState.{RspState}
use Rattle.rsp_c.specs.ToC.{bit, c_flags, c_divider}

-- the sixteen SP registers as a peek shows them
abbrev pub sp_words : Sp → List ℕ
sp_words s =
    read_value 0 s ∷ read_value 1 s ∷ read_value 2 s ∷ read_value 3 s ∷ read_value 4 s ∷ read_value 5 s ∷ read_value 6 s ∷ read_value 7 s
    ∷ read_value 8 s ∷ read_value 9 s ∷ read_value 10 s ∷ read_value 11 s ∷ read_value 12 s ∷ read_value 13 s ∷ read_value 14 s ∷ read_value 15 s ∷ []

-- all registers, with the SP registers as words
abbrev pub c_state : AllRegisters → Sp → RspState
c_state r s = record {
  words = r.registers;
  vectors = r.vectors;
  accumulators = record { high = r.accumulators_high; middle = r.accumulators_middle; low = r.accumulators_low };
  flags = c_flags r.flags;
  zero = 0;
  divider = c_divider r.divider;
  pc = r.pc;
  npc = r.npc;
  sp = sp_words s;
  interrupt = bit s.interrupt;
}

-- whether a bit is set, by its weight
abbrev pub is_set : ℕ → ℕ → Bool
is_set w weight = w / weight % 2 == 1

-- the SP registers that read these words
abbrev pub sp_parts : List ℕ → ℕ → SpParts
sp_parts w interrupt =
    let status = slice_index w 4 in
    record {
      memory = slice_index w 0;
      dram = slice_index w 1;
      skip = slice_index w 2 / 1048576;
      halted = status % 2 == 1;
      broke = is_set status 2;
      single_step = is_set status 32;
      intbreak = is_set status 64;
      signals =
          is_set status 128 ∷ is_set status 256 ∷ is_set status 512 ∷ is_set status 1024
          ∷ is_set status 2048 ∷ is_set status 4096 ∷ is_set status 8192 ∷ is_set status 16384 ∷ [];
      interrupt = interrupt == 1;
      semaphore = slice_index w 7 == 1;
      dpc =
          slice_index w 8 ∷ slice_index w 9 ∷ slice_index w 10 ∷ slice_index w 11
          ∷ slice_index w 12 ∷ slice_index w 13 ∷ slice_index w 14 ∷ slice_index w 15 ∷ [];
    }

-- the SP registers as C sees them, and those that C gives
abbrev pub c_sp : Sp → RspSpWords
c_sp s = record { words = sp_words s; interrupt = bit s.interrupt }

abbrev pub sp_from_c : RspSpWords → SpParts
sp_from_c g = sp_parts g.words g.interrupt

-- the registers that C gives
abbrev pub registers_from_c : RspState → AllRegisters
registers_from_c g = record {
  pc = g.pc;
  npc = g.npc;
  registers = g.words;
  vectors = g.vectors;
  accumulators_high = g.accumulators.high;
  accumulators_middle = g.accumulators.middle;
  accumulators_low = g.accumulators.low;
  flags = record { carry = flags_of_bits g.flags.carry; differ = flags_of_bits g.flags.differ; compare = flags_of_bits g.flags.compare; clip = flags_of_bits g.flags.clip; extra = flags_of_bits g.flags.extra };
  divider = record { input = g.divider.input; output = g.divider.output; loaded = g.divider.loaded == 1 };
  sp = sp_parts g.sp g.interrupt;
}
