-- What a run writes into a trace.
use Rattle.std.specs.Prelude.{ℕ, ◌≡◌, ◌+◌, List, map, replicate, nat_lt, if◌then◌else◌}
use Rattle.std.specs.List.{range_with_len}
use Rattle.std.specs.Simd.Lanes.{mask_l}
use Rattle.rsp_memory.specs.Memory.{word_at, byte_at}
use Rattle.rsp_scalar.specs.Registers.{register}
use Rattle.rsp_loadstore.specs.File.{vector}
use Rattle.rsp_lanes.specs.Flags.{vco, vcc}
use Rattle.rsp_machine.specs.State.{State, IsState}
use Rattle.rsp_machine.specs.Step.{step_of}
use Rattle.rsp_machine.specs.Laws.{steps_of}
use Rattle.rsp_machine.specs.Writes.{writes_of}
use Rattle.rsp_machine.specs.Footprints.{IsPastQuadwords}
use Rattle.rsp_machine.specs.declared.writes.Writes.{Writes}
use Rattle.rsp_machine.specs.declared.step.StepEnd.TheVariants.{Done}
use Rattle.rsp_debug.specs.declared.trace_entry.TraceEntry.{TraceEntry}

-- the lanes of a vector register below 32; else 0
abbrev pub lanes_in : ℕ → List (List ℕ) → List ℕ
lanes_in n file = if nat_lt n 32 then vector file n else replicate 8 0

-- the entry of a step of a word at an address, by what it writes, which ended in the state t
abbrev pub entry_made_of : ℕ → ℕ → Writes → State → TraceEntry
entry_made_of pc word writes t = record {
  word = word;
  value = register t.registers writes.scalar;
  pc = pc;
  address = writes.address;
  vco = vco t.flags;
  vcc = vcc t.flags;
  vce = mask_l t.flags.extra;
  scalar = writes.scalar;
  vector = writes.vector;
  stored = if writes.stored then 1 else 0;
  lanes = lanes_in writes.vector t.vectors;
}

-- the entry of a step from s to t
abbrev pub step_entry : State → State → TraceEntry
step_entry s t = entry_made_of s.pc (word_at s.imem s.pc) (writes_of s) t

-- the entry of a store has the address: the store leaves all bytes of DMEM but the quadword that has this address, and the next one
abbrev pub EntriesShowStores : Type 0
EntriesShowStores = (s : State) → IsState s → (step_of s).0 ≡ Done →
    let t = (step_of s).1 in
    let e = step_entry s t in
    e.stored ≡ 1 → (x : ℕ) → IsPastQuadwords e.address x → byte_at t.dmem x ≡ byte_at s.dmem x

-- the entries of the first n steps from s
unfoldable pub trace_of : ℕ → State → List TraceEntry
trace_of n s = map (λ i. step_entry (steps_of i s) (steps_of (i + 1) s)) (range_with_len 0 n)
