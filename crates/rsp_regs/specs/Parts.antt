-- The SP registers as plain data.
use Rattle.rsp_regs.specs.Sp.{Sp}
use Rattle.rsp_regs.specs.declared.parts.SpParts.{SpParts}

-- the registers with these values
abbrev pub sp_of : SpParts → Sp
sp_of p = record {
  memory = p.memory;
  dram = p.dram;
  skip = p.skip;
  halted = p.halted;
  broke = p.broke;
  single_step = p.single_step;
  intbreak = p.intbreak;
  signals = p.signals;
  interrupt = p.interrupt;
  semaphore = p.semaphore;
  dpc = p.dpc;
}

-- the values of the registers
abbrev pub parts_of : Sp → SpParts
parts_of s = record {
  memory = s.memory;
  dram = s.dram;
  skip = s.skip;
  halted = s.halted;
  broke = s.broke;
  single_step = s.single_step;
  intbreak = s.intbreak;
  signals = s.signals;
  interrupt = s.interrupt;
  semaphore = s.semaphore;
  dpc = s.dpc;
}
