-- What a step leaves: all that its footprint doesn't name. The law of footprints, of what a trace says, and of passing over a move.
use Rattle.std.specs.Prelude.{ℕ, ℤ, List, ◌+◌, ◌%◌, ◌<◌, ◌≤◌, ◌≡◌, ◌≢◌, ◌⊎◌, true, false, Option, Some, None, Ok}
use Rattle.rsp_decode.specs.declared.inst.Inst.{Inst}
use Rattle.rsp_decode.specs.Table.{inst_of}
use Rattle.rsp_acc.specs.Planes.{with_low}
use Rattle.rsp_memory.specs.Memory.{word_at, byte_at}
use Rattle.rsp_scalar.specs.Registers.{register}
use Rattle.rsp_loadstore.specs.File.{vector}
use Rattle.rsp_loadstore.specs.Pairs.{quadword_start}
use Rattle.rsp_regs.specs.Sp.{after_step}
use Rattle.rsp_machine.specs.State.{State, IsState}
use Rattle.rsp_machine.specs.Step.{step_of}
use Rattle.rsp_machine.specs.Transfers.{starts_dma_at}
use Rattle.rsp_machine.specs.Footprint.{footprint_of, scalar_in, vectors_in, has_accumulators, has_low, has_vco, has_vcc, has_flags, has_divider, makes_no_dma, reaches_sp}
use Rattle.rsp_machine.specs.Writes.{writes_of}
use Rattle.rsp_machine.specs.Pass.{pass_of}
use Rattle.rsp_machine.specs.declared.step.StepEnd.TheVariants.{Done}
use Rattle.rsp_machine.specs.declared.footprint.Footprint.{Footprint}
use Rattle.rsp_machine.specs.declared.footprint.Footprint.TheVariants as of

-- what the word at pc touches; nothing if it is reserved
abbrev pub footprint_in : Option Inst → State → Footprint
footprint_in None s = of.ProgramCounters
footprint_in (Some i) s = footprint_of i s

unfoldable pub footprint_at : State → Footprint
footprint_at s = footprint_in (inst_of (word_at s.imem s.pc)) s

-- an address of DMEM isn't among the bytes that a footprint names; a DMA may write any
abbrev pub IsOutside : Footprint → ℕ → Type 0
IsOutside (of.Bytes a) x = (k : ℕ) → k < 16 → x % 4096 ≢ (a + k) % 4096
IsOutside of.Dma x = ⊥
IsOutside _ x = Unit {0}

-- accumulators that differ from others in their low sixteen bits alone
pub record SameUpper (xs ys : List ℤ) : Type 0 where
  pub low : List ℕ
  pub is : with_low xs low ≡ ys

-- From s to t only what a footprint names has changed, besides pc and npc. Single step may have halted the machine.
pub record StaysOutside (f : Footprint) (s t : State) : Type 0 where
  pub registers : (n : ℕ) → n ≢ scalar_in f → register t.registers n ≡ register s.registers n
  pub vectors : (n : ℕ) → (n < (vectors_in f).0) ⊎ ((vectors_in f).0 + (vectors_in f).1 ≤ n) → vector t.vectors n ≡ vector s.vectors n
  pub accumulators : has_accumulators f ≡ false → has_low f ≡ false → t.accumulators ≡ s.accumulators
  pub upper : has_low f ≡ true → SameUpper t.accumulators s.accumulators
  pub vco : has_vco f ≡ false → (t.flags.carry ≡ s.flags.carry) × (t.flags.differ ≡ s.flags.differ)
  pub vcc : has_vcc f ≡ false → (t.flags.compare ≡ s.flags.compare) × (t.flags.clip ≡ s.flags.clip)
  pub vce : has_flags f ≡ false → t.flags.extra ≡ s.flags.extra
  pub divider : has_divider f ≡ false → t.divider ≡ s.divider
  pub dmem : (x : ℕ) → IsOutside f x → byte_at t.dmem x ≡ byte_at s.dmem x
  pub memories : makes_no_dma f ≡ true → (t.imem ≡ s.imem) × (t.rdram ≡ s.rdram)
  pub sp : reaches_sp f ≡ false → t.sp ≡ after_step s.sp

-- A step changes nothing but what its footprint names.
abbrev pub FootprintsHold : Type 0
FootprintsHold = (s : State) → IsState s → (step_of s).0 ≡ Done → StaysOutside (footprint_at s) s (step_of s).1

-- a byte of DMEM is neither in the quadword that has an address nor in the next one
abbrev pub IsPastQuadwords : ℕ → ℕ → Type 0
IsPastQuadwords address x = (k : ℕ) → k < 32 → x % 4096 ≢ (quadword_start address + k) % 4096

-- What a trace says of a step from s to t: no other scalar register was written, and no other vector register (LTV writes eight from the one that
-- it names); what is neither a store nor starts a DMA leaves DMEM; a store writes only to the quadword that has its address, and to the next one.
pub record AreWrites (s t : State) : Type 0 where
  pub scalar : (n : ℕ) → n ≢ (writes_of s).scalar → register t.registers n ≡ register s.registers n
  pub vector : (n : ℕ) → (n < (writes_of s).vector) ⊎ ((writes_of s).vector + (vectors_in (footprint_at s)).1 ≤ n) → vector t.vectors n ≡ vector s.vectors n
  pub dmem : (writes_of s).stored ≡ false → starts_dma_at s ≡ false → t.dmem ≡ s.dmem
  pub bytes : (writes_of s).stored ≡ true → (x : ℕ) → IsPastQuadwords (writes_of s).address x → byte_at t.dmem x ≡ byte_at s.dmem x

abbrev pub WritesHold : Type 0
WritesHold = (s : State) → IsState s → (step_of s).0 ≡ Done → AreWrites s (step_of s).1

-- Passing over a move from s leads to p, and a step to t. They differ in the SP registers and the memories alone, which the pass leaves, and in
-- the scalar register that the move writes, if its value isn't what the step reads.
pub record IsPassed (value : ℕ) (s p t : State) : Type 0 where
  pub done : (step_of s).0 ≡ Done
  pub same : value ≡ register t.registers (scalar_in (footprint_at s)) → p.registers ≡ t.registers
  pub registers : (n : ℕ) → n ≢ scalar_in (footprint_at s) → register p.registers n ≡ register t.registers n
  pub rest : record p { registers = t.registers } ≡ record t { dmem = s.dmem; imem = s.imem; rdram = s.rdram; sp = after_step s.sp }

abbrev pub PassesAreSteps : Type 0
PassesAreSteps = (value : ℕ) (s p : State) → pass_of value s ≡ Ok p → IsPassed value s p (step_of s).1
