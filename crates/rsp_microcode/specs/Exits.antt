-- Loops with two exits: a block whose branch leaves the loop, and one whose branch goes back to its start.
use Rattle.std.specs.Prelude.{ℕ, ◌≡◌, ◌<◌, ◌+◌, ◌*◌, ◌-◌, ◌&&◌, ◌==◌, Bool, true, false, nat_lt, List, ◌++◌, length, map, Some}
use Rattle.rsp_decode.specs.declared.inst.Inst.{Inst}
use Rattle.rsp_decode.specs.Table.{inst_of}
use Rattle.rsp_machine.specs.State.{State, IsState}
use Rattle.rsp_machine.specs.Laws.{steps_of}
use Rattle.rsp_microcode.specs.Runs.{IsAt}
use Rattle.rsp_microcode.specs.Kept.{Spares}
use Rattle.rsp_microcode.specs.Pieces.{code_of, AreAligned}
use Rattle.rsp_microcode.specs.Loops.{Loop, loop_code, round_of}
use Rattle.rsp_microcode.specs.Blocks.{Ran}
use Rattle.rsp_microcode.specs.Branches.{is_block, offset_of, turns}

pub record Exits : Type 0 where
  pub first : Loop
  pub last : Loop

abbrev pub exits_words : Exits → List ℕ
exits_words e = e.first.words ++ e.last.words

abbrev pub exits_code : Exits → List Inst
exits_code e = loop_code e.first ++ loop_code e.last

-- the words before the delay slot of the branch back
abbrev pub words_back : Exits → ℕ
words_back e = length (code_of e.first.pieces) + length (code_of e.last.pieces) + 3

-- the conditions that can be computed: the first branch goes to the word after the loop, and the last one to its start
abbrev pub has_exits : Exits → Bool
has_exits e =
    (is_block e.first && is_block e.last)
    && ((offset_of e.first.branch == length (code_of e.last.pieces) + 3) && ((offset_of e.last.branch == 65536 - words_back e) && nat_lt (words_back e) 1000))

-- What is to be shown of each whole round: its addresses are aligned, its first branch isn't taken, and its last one is; and what holds
-- before it holds after it, for one round more.
abbrev pub GoesRound : Exits → State → ℕ → (ℕ → State → Type 0) → Type 0
GoesRound e s n Holds = (k : ℕ) (t : State) → k < n → IsState t → Spares (exits_code e) s t → Holds k t
    → AreAligned e.first.pieces t × (turns e.first t ≡ false) × AreAligned e.last.pieces (round_of e.first t) × (turns e.last (round_of e.first t) ≡ true)
    × Holds (k + 1) (round_of e.last (round_of e.first t))

-- n whole rounds go from s to t. From there steps leave the loop if the first branch is taken, or if neither is; the whole then is a block, as
-- straight code is.
pub record AfterRounds (e : Exits) (n : ℕ) (Holds : ℕ → State → Type 0) (s t : State) : Type 0 where
  pub holds : Holds n t
  pub ranges : IsState t
  pub spares : Spares (exits_code e) s t
  pub by_first : AreAligned e.first.pieces t → turns e.first t ≡ true
      → (steps_of (length e.first.words) t ≡ round_of e.first t) × Ran (exits_words e) (exits_code e) s (steps_of (length e.first.words) t)
  pub by_last : AreAligned e.first.pieces t → turns e.first t ≡ false → AreAligned e.last.pieces (round_of e.first t) → turns e.last (round_of e.first t) ≡ false
      → (steps_of (length e.first.words + length e.last.words) t ≡ round_of e.last (round_of e.first t))
      × Ran (exits_words e) (exits_code e) s (steps_of (length e.first.words + length e.last.words) t)

abbrev pub ExitsRun : Type 1
ExitsRun = (e : Exits) → map inst_of e.first.words ≡ map Some (loop_code e.first) → map inst_of e.last.words ≡ map Some (loop_code e.last) → has_exits e ≡ true
    → (s : State) → IsState s → IsAt (exits_words e) s → (n : ℕ) (Holds : ℕ → State → Type 0) → Holds 0 s → GoesRound e s n Holds
    → AfterRounds e n Holds s (steps_of (n * (length e.first.words + length e.last.words)) s)
