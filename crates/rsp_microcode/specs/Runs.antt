-- Runs of microcode: the words at pc, straight code, and code that ends with a branch and its delay slot.
use Rattle.std.specs.Prelude.{ℕ, ◌≡◌, ◌%◌, ◌==◌, Bool, true, false, not, ◌&&◌, List, [], ◌∷◌, ◌++◌, length, map, Some}
use Rattle.rsp_decode.specs.declared.inst.Inst.{Inst}
use Rattle.rsp_decode.specs.declared.inst.Inst.TheVariants.{JumpRegister, JumpLinkRegister, Break, BranchSign, BranchEqual, Jump, MoveSp}
use Rattle.rsp_decode.specs.declared.scalar.MoveOp.TheVariants.{From, To}
use Rattle.rsp_decode.specs.Table.{inst_of}
use Rattle.rsp_memory.specs.Memory.{word_at}
use Rattle.rsp_scalar.specs.Flow.{address_after}
use Rattle.rsp_machine.specs.State.{State}
use Rattle.rsp_machine.specs.Step.{step_of, executed}
use Rattle.rsp_machine.specs.declared.step.StepEnd.TheVariants.{Done}
use Rattle.rsp_machine.specs.Laws.{steps_of}

-- a step over a word that means an instruction, if single step isn't set after it
abbrev pub StepsOver : Type 0
StepsOver = (i : Inst) (s : State) → s.sp.halted ≡ false → inst_of (word_at s.imem s.pc) ≡ Some i → (executed i s).sp.single_step ≡ false
    → step_of s ≡ (Done, executed i s)

-- Whether an instruction leaves pc, npc and the SP registers to the step: all do but jumps, branches, BREAK, moves to SP registers, and
-- the move from number 7, which takes the semaphore.
abbrev pub goes_on : Inst → Bool
goes_on (JumpRegister rs) = false
goes_on (JumpLinkRegister rd rs) = false
goes_on Break = false
goes_on (BranchSign row rs offset) = false
goes_on (BranchEqual row rs rt offset) = false
goes_on (Jump row target) = false
goes_on (MoveSp From rt n) = not (n % 16 == 7)
goes_on (MoveSp To rt n) = false
goes_on _ = true

abbrev pub all_go_on : List Inst → Bool
all_go_on [] = true
all_go_on (i ∷ is) = goes_on i && all_go_on is

-- IMEM holds the words from an address on; as for pc, 0 comes after the last address
abbrev pub Stand : List ℕ → ℕ → List ℕ → Type 0
Stand [] address imem = Unit {0}
Stand (w ∷ ws) address imem = (word_at imem address ≡ w) × Stand ws (address_after address) imem

-- the machine is neither halted nor in single step, and it executes the words next
pub record IsAt (words : List ℕ) (s : State) : Type 0 where
  pub goes : s.sp.halted ≡ false
  pub runs : s.sp.single_step ≡ false
  pub next : s.npc ≡ address_after s.pc
  pub stand : Stand words s.pc s.imem

-- the state after instructions, each executed once
abbrev pub ran_through : List Inst → State → State
ran_through [] s = s
ran_through (i ∷ is) s = ran_through is (executed i s)

-- the address after as many instructions as the list is long
abbrev pub address_after_words : {X : Type 0} → List X → ℕ → ℕ
address_after_words [] address = address
address_after_words (x ∷ xs) address = address_after_words xs (address_after address)

-- whether an instruction is a branch or a jump
abbrev pub branches : Inst → Bool
branches (JumpRegister rs) = true
branches (JumpLinkRegister rd rs) = true
branches (BranchSign row rs offset) = true
branches (BranchEqual row rs rt offset) = true
branches (Jump row target) = true
branches _ = false

-- steps over words that mean straight instructions come to the state after those instructions
abbrev pub StraightRuns : Type 0
StraightRuns = (words : List ℕ) (code : List Inst) (s : State)
    → map inst_of words ≡ map Some code → all_go_on code ≡ true → IsAt words s
    → steps_of (length words) s ≡ ran_through code s

-- Steps over straight code, a branch or jump, and the instruction in its delay slot come to the state after all of them. If the branch is
-- taken, pc is then its target (`next_npc`): the branch wrote npc, and the delay slot's instruction advanced pc to it.
abbrev pub BranchRuns : Type 0
BranchRuns = (words : List ℕ) (front : List Inst) (branch slot : Inst) (s : State)
    → map inst_of words ≡ map Some (front ++ branch ∷ slot ∷ []) → all_go_on front ≡ true → branches branch ≡ true → goes_on slot ≡ true
    → IsAt words s
    → steps_of (length words) s ≡ executed slot (executed branch (ran_through front s))
