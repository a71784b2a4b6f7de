-- A state without a faulty field has registers that a machine can have.
use Rattle.std.proofs.Common.{◌≡◌, ℕ, ◌+◌, ◌*◌, ◌/◌, ◌%◌, Bool, true, false, Option, Some, None, refl, arith, IsTrue}
use Rattle.std.specs.Prelude.{if◌then◌else◌, not, ◌&&◌, ◌==◌, nat_le, slice_index, is_none, List}
use Rattle.rsp_machine.specs.declared.registers.RegistersFault.{RegistersFault}
use Rattle.rsp_machine.specs.declared.registers.RegistersFault.TheVariants.{Place, RegisterZero, MemoryAddress, DramAddress, Skip}
use Rattle.rsp_machine.specs.Registers.{is_whole, registers_fault, sp_fault}
use Rattle.rsp_c.specs.declared.c_structs.RspState.{RspState}
use Rattle.rsp_c.specs.declared.c_structs.RspSpWords.{RspSpWords}
use Rattle.rsp_c.specs.States.{registers_from_c, sp_from_c, sp_parts}
use Rattle.rsp_c.specs.Faults.{sp_word_fault, sp_field, are_sp, state_fault}

-- what is tested of SP registers: the first two; the low bits and the skip of the third; the others to the eighth
pub record AreRightWords (m r w k b s d e f : Bool) : Type 0 where
  pub memory : m ≡ true
  pub dram : r ≡ true
  pub low : w ≡ true
  pub skip : k ≡ true
  pub both : b ≡ true
  pub status : s ≡ true
  pub full : d ≡ true
  pub busy : e ≡ true
  pub semaphore : f ≡ true

abbrev pub first_fault : (m r w k b s d e f : Bool) → Option ℕ
first_fault m r w k b s d e f =
    if not m then Some 0
    else if not r then Some 1
    else if not (w && k) then Some 2
    else if not b then Some 3
    else if not s then Some 4
    else if not d then Some 5
    else if not e then Some 6
    else if not f then Some 7
    else None

right_words : (m r w k b s d e f : Bool) → first_fault m r w k b s d e f ≡ None → AreRightWords m r w k b s d e f
right_words false r w k b s d e f h = cc
right_words true false w k b s d e f h = cc
right_words true true false k b s d e f h = cc
right_words true true true false b s d e f h = cc
right_words true true true true false s d e f h = cc
right_words true true true true true false d e f h = cc
right_words true true true true true true false e f h = cc
right_words true true true true true true true false f h = cc
right_words true true true true true true true true false h = cc
right_words true true true true true true true true true h =
    record { memory = refl; dram = refl; low = refl; skip = refl; both = refl; status = refl; full = refl; busy = refl; semaphore = refl }

-- the tests of sixteen words
abbrev pub IsRightWords : List ℕ → Type 0
IsRightWords w = AreRightWords
    (is_whole 8 8192 (slice_index w 0))
    (is_whole 8 16777216 (slice_index w 1))
    (slice_index w 2 % 1048576 == 4088)
    (is_whole 8 4096 (slice_index w 2 / 1048576))
    (slice_index w 3 == slice_index w 2)
    (slice_index w 4 == slice_index w 4 % 4 + slice_index w 4 / 32 % 1024 * 32)
    (slice_index w 5 == 0)
    (slice_index w 6 == 0)
    (nat_le (slice_index w 7) 1)

pub words-right : (w : List ℕ) → sp_word_fault w ≡ None → IsRightWords w
words-right w h = right_words _ _ _ _ _ _ _ _ _ h

unfaulted : (m r k : Bool) → m ≡ true → r ≡ true → k ≡ true
    → (if not m then Some MemoryAddress else if not r then Some DramAddress else if not k then Some Skip else None) ≡ None
unfaulted m r k f g h = rw (f, g, h) refl

words-unfaulted : (w : List ℕ) (interrupt : ℕ) → sp_word_fault w ≡ None → sp_fault (sp_parts w interrupt) ≡ None
words-unfaulted w interrupt h = let is = words-right w h in unfaulted _ _ _ is.memory is.dram is.skip

sp_field-none : (o : Option ℕ) → sp_field o ≡ 0 → o ≡ None
sp_field-none None h = refl
sp_field-none (Some n) h = absurd (omega (arith, h))

-- what is tested before the SP registers: register 0, the mark of DIV_IN, pc, npc, the interrupt flag
pub record AreRight (z l p n i : Bool) (o : Option ℕ) : Type 0 where
  pub zero : z ≡ true
  pub loaded : l ≡ true
  pub pc : p ≡ true
  pub npc : n ≡ true
  pub interrupt : i ≡ true
  pub sp : o ≡ None

abbrev pub first_field : (z l p n i : Bool) → Option ℕ → ℕ
first_field z l p n i o = if not z then 1 else if not l then 2 else if not p then 3 else if not n then 4 else if not i then 5 else sp_field o

right : (z l p n i : Bool) (o : Option ℕ) → first_field z l p n i o ≡ 0 → AreRight z l p n i o
right false l p n i o h = absurd (omega (arith, h))
right true false p n i o h = absurd (omega (arith, h))
right true true false n i o h = absurd (omega (arith, h))
right true true true false i o h = absurd (omega (arith, h))
right true true true true false o h = absurd (omega (arith, h))
right true true true true true o h = record { zero = refl; loaded = refl; pc = refl; npc = refl; interrupt = refl; sp = sp_field-none o h }

unfaulted_all : (p n z : Bool) (o : Option RegistersFault) → p ≡ true → n ≡ true → z ≡ true → o ≡ None
    → (if not (p && n) then Some Place else if not z then Some RegisterZero else o) ≡ None
unfaulted_all p n z o f g h i = rw (f, g, h, i) refl

pub state-right : (g : RspState) → state_fault g ≡ 0
    → AreRight (slice_index g.words 0 == 0) (nat_le g.divider.loaded 1) (is_whole 4 4096 g.pc) (is_whole 4 4096 g.npc) (nat_le g.interrupt 1) (sp_word_fault g.sp)
state-right g h = right _ _ _ _ _ _ h

pub state-unfaulted : (g : RspState) → state_fault g ≡ 0 → registers_fault (registers_from_c g) ≡ None
state-unfaulted g h =
    let is = state-right g h in
    unfaulted_all _ _ _ (sp_fault (sp_parts g.sp g.interrupt)) is.pc is.npc is.zero (words-unfaulted g.sp g.interrupt is.sp)

are_none : (o : Option ℕ) (i : Bool) → IsTrue (is_none o && i) → o ≡ None
are_none None i h = refl
are_none (Some n) i h = cc

pub sp-unfaulted : (g : RspSpWords) → IsTrue (are_sp g) → sp_fault (sp_from_c g) ≡ None
sp-unfaulted g h = words-unfaulted g.words g.interrupt (are_none (sp_word_fault g.words) (nat_le g.interrupt 1) h)

pub ruleset fields = (state-unfaulted, sp-unfaulted)
