-- Loops: pieces, a branch back to their start, and one more instruction in its delay slot.
use Rattle.std.specs.Prelude.{ℕ, ◌≡◌, ◌<◌, ◌+◌, ◌*◌, ◌-◌, ◌&&◌, ◌==◌, Bool, true, false, nat_lt, List, [], ◌∷◌, ◌++◌, length, map, Some}
use Rattle.rsp_decode.specs.declared.inst.Inst.{Inst}
use Rattle.rsp_decode.specs.declared.inst.Inst.TheVariants.{BranchSign, BranchEqual}
use Rattle.rsp_decode.specs.declared.scalar.BranchSignOp.TheVariants.{Bltz, Bgez, Blez, Bgtz}
use Rattle.rsp_decode.specs.Table.{inst_of}
use Rattle.rsp_scalar.specs.ScalarRules.{is_taken}
use Rattle.rsp_machine.specs.State.{State, IsState}
use Rattle.rsp_machine.specs.Step.{executed}
use Rattle.rsp_machine.specs.Laws.{steps_of}
use Rattle.rsp_microcode.specs.Runs.{IsAt, goes_on}
use Rattle.rsp_microcode.specs.Frames.{of_rows, with_parts}
use Rattle.rsp_microcode.specs.Kept.{write_only, Spares, with_written}
use Rattle.rsp_microcode.specs.Ranges.{fits_word}
use Rattle.rsp_microcode.specs.Pieces.{Piece, code_of, pieces_fit, after_pieces, AreAligned}

pub record Loop : Type 0 where
  pub words : List ℕ
  pub pieces : List Piece
  pub branch : Inst
  pub slot : Inst

abbrev pub loop_code : Loop → List Inst
loop_code l = code_of l.pieces ++ l.branch ∷ l.slot ∷ []

-- a branch that links nothing, back over this number of words
abbrev pub branches_back : Inst → ℕ → Bool
branches_back (BranchEqual op rs rt offset) n = offset == 65536 - n
branches_back (BranchSign Bltz rs offset) n = offset == 65536 - n
branches_back (BranchSign Bgez rs offset) n = offset == 65536 - n
branches_back (BranchSign Blez rs offset) n = offset == 65536 - n
branches_back (BranchSign Bgtz rs offset) n = offset == 65536 - n
branches_back _ n = false

-- the conditions on a loop that can be computed
abbrev pub is_loop : Loop → Bool
is_loop l = (pieces_fit l.pieces && nat_lt (length (code_of l.pieces)) 1000) && (branches_back l.branch (length (code_of l.pieces) + 1) && (goes_on l.slot && fits_word l.slot))

-- the state after a round
abbrev pub round_of : Loop → State → State
round_of l s = executed l.slot (executed l.branch (after_pieces l.pieces s))

-- What is to be shown of each round: its addresses are aligned, its branch is taken exactly if a round is left, and what holds before it
-- holds after it, for one round more.
abbrev pub HandsOn : Loop → State → ℕ → (ℕ → State → Type 0) → Type 0
HandsOn l s n Holds = (k : ℕ) (t : State) → k < n → IsState t → Spares (loop_code l) s t → Holds k t
    → AreAligned l.pieces t × (is_taken l.branch (after_pieces l.pieces t).registers ≡ nat_lt (k + 1) n) × Holds (k + 1) (round_of l t)

-- n rounds go from s to t: t is in its ranges, and what holds after n rounds holds of it. pc is after the words, and all else is as it
-- was, as after pieces.
pub record AfterLoop (l : Loop) (n : ℕ) (Holds : ℕ → State → Type 0) (s t : State) : Type 0 where
  pub holds : Holds n t
  pub ranges : IsState t
  pub spares : Spares (loop_code l) s t
  pub frame : t ≡ with_parts (of_rows (loop_code l)) s t
  pub others : (ns ms : List ℕ) → write_only ns ms (loop_code l) ≡ true → t ≡ with_written l.words (loop_code l) ns ms s t

abbrev pub LoopRuns : Type 1
LoopRuns = (l : Loop) → map inst_of l.words ≡ map Some (loop_code l) → is_loop l ≡ true
    → (s : State) → IsState s → IsAt l.words s → (n : ℕ) → 0 < n → (Holds : ℕ → State → Type 0) → Holds 0 s → HandsOn l s n Holds
    → AfterLoop l n Holds s (steps_of (n * length l.words) s)
