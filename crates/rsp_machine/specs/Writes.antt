-- Which registers an instruction writes, and where it stores: for a trace.
use Rattle.std.specs.Prelude.{ℕ, ◌%◌, ◌==◌, false, if◌then◌else◌, Option, Some, None}
use Rattle.rsp_decode.specs.declared.inst.Inst.{Inst}
use Rattle.rsp_decode.specs.declared.inst.Inst.TheVariants.{Store, VectorStore}
use Rattle.rsp_decode.specs.Table.{inst_of}
use Rattle.rsp_memory.specs.Memory.{word_at}
use Rattle.rsp_scalar.specs.Registers.{register}
use Rattle.rsp_scalar.specs.ScalarRules.{address}
use Rattle.rsp_loadstore.specs.Addresses.{vector_address}
use Rattle.rsp_machine.specs.State.{State}
use Rattle.rsp_machine.specs.Footprint.{footprint_of, scalar_in, vectors_in, is_store}
use Rattle.rsp_machine.specs.declared.footprint.Footprint.{Footprint}
use Rattle.rsp_machine.specs.declared.writes.Writes.{Writes}

-- the first vector register that a footprint names; 32 if it names none
abbrev pub vector_in : Footprint → ℕ
vector_in f = if (vectors_in f).1 == 0 then 32 else (vectors_in f).0

-- the address in DMEM of a store; 0 for another instruction
abbrev pub stored_at : Inst → State → ℕ
stored_at (Store op f) s = address s.registers f.base f.offset % 4096
stored_at (VectorStore op f) s = vector_address (VectorStore op f) (register s.registers f.base) % 4096
stored_at _ s = 0

abbrev pub no_writes : Writes
no_writes = record { scalar = 0; vector = 32; address = 0; stored = false }

abbrev pub writes_by : Option Inst → State → Writes
writes_by None s = no_writes
writes_by (Some i) s = record {
  scalar = scalar_in (footprint_of i s);
  vector = vector_in (footprint_of i s);
  address = stored_at i s;
  stored = is_store (footprint_of i s);
}

-- which registers the word at pc writes, and where it stores
unfoldable pub writes_of : State → Writes
writes_of s = writes_by (inst_of (word_at s.imem s.pc)) s
