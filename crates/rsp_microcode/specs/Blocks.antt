-- Blocks of words, one after the other.
use Rattle.std.specs.Prelude.{ℕ, ◌≡◌, ◌<◌, ◌+◌, true, List, ◌++◌}
use Rattle.rsp_decode.specs.declared.inst.Inst.{Inst}
use Rattle.rsp_scalar.specs.Flow.{address_after}
use Rattle.rsp_machine.specs.State.{State, IsState}
use Rattle.rsp_machine.specs.Laws.{steps_of}
use Rattle.rsp_microcode.specs.Runs.{IsAt, Stand, address_after_words}
use Rattle.rsp_microcode.specs.Frames.{of_rows, with_parts, spare_scalar}
use Rattle.rsp_microcode.specs.Kept.{write_only, Spares, with_written, with_written_at}
use Rattle.rsp_microcode.specs.Calls.{Routine, routine_code, return_of, AfterRoutine}

-- steps, and more steps
abbrev pub StepsAfter : Type 0
StepsAfter = (m n : ℕ) (s : State) → steps_of (m + n) s ≡ steps_of n (steps_of m s)

-- if IMEM holds two blocks, one after the other, it holds the first, and the second after it
abbrev pub BothStand : Type 0
BothStand = (a b : List ℕ) (p : ℕ) (m : List ℕ) → Stand (a ++ b) p m → Stand a p m × Stand b (address_after_words a p) m

-- a machine that is about to execute two blocks is about to execute the first
abbrev pub FirstBlock : Type 0
FirstBlock = (a b : List ℕ) (s : State) → IsAt (a ++ b) s → IsAt a s

-- and if pc is after the first, and IMEM and the SP registers are as they were, it is about to execute the second
abbrev pub NextBlock : Type 0
NextBlock = (a b : List ℕ) (s t : State) → IsAt (a ++ b) s → t.pc ≡ address_after_words a s.pc → t.npc ≡ address_after t.pc → t.imem ≡ s.imem → t.sp ≡ s.sp → IsAt b t

-- Rounds of any lengths: each round hands on what holds, so it holds after n of them. The rounds of a loop may have branches inside.
abbrev pub RoundsOfSteps : Type 1
RoundsOfSteps = (n : ℕ) (Holds : ℕ → State → Type 0) (s : State) → Holds 0 s
    → ((k : ℕ) (t : State) → k < n → Holds k t → (m : ℕ) × Holds (k + 1) (steps_of m t))
    → (m : ℕ) × Holds n (steps_of m s)

-- Steps over a block go from s to t: pc is after its words, the registers that its code doesn't write are as they were, and so are all
-- parts that it can't change. Straight code and loops are such blocks.
pub record Ran (words : List ℕ) (code : List Inst) (s t : State) : Type 0 where
  pub ranges : IsState t
  pub pc : t.pc ≡ address_after_words words s.pc
  pub npc : t.npc ≡ address_after t.pc
  pub spares : Spares code s t
  pub frame : t ≡ with_parts (of_rows code) s t

-- one block after another is a block
abbrev pub BlocksJoin : Type 0
BlocksJoin = (a b : List ℕ) (c d : List Inst) (s t u : State) → Ran a c s t → Ran b d t u → Ran (a ++ b) (c ++ d) s u

-- and after the first the machine is about to execute the second
abbrev pub RanAt : Type 0
RanAt = (a b : List ℕ) (code : List Inst) (s t : State) → IsAt (a ++ b) s → Ran a code s t → IsAt b t

-- all else is as it was
abbrev pub RanOthers : Type 0
RanOthers = (words : List ℕ) (code : List Inst) (s t : State) → IsState s → s.npc ≡ address_after s.pc → Ran words code s t
    → (ns ms : List ℕ) → write_only ns ms code ≡ true → t ≡ with_written words code ns ms s t

-- If code that doesn't write register 31 is before a routine's end, the whole returns to where that register said at the start.
abbrev pub RanReturns : Type 0
RanReturns = (words : List ℕ) (code : List Inst) (r : Routine) (s t u : State) → IsState s → Ran words code s t → spare_scalar 31 code ≡ true → AfterRoutine r t u
    → (ns ms : List ℕ) → write_only ns ms (code ++ routine_code r) ≡ true
    → u ≡ with_written_at (return_of s) (address_after (return_of s)) (code ++ routine_code r) ns ms s u
