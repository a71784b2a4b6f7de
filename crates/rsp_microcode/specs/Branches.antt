-- Code that ends with a branch, forward or back: a round of a loop with two exits has two such blocks.
use Rattle.std.specs.Prelude.{ℕ, ◌≡◌, ◌+◌, ◌*◌, ◌%◌, ◌&&◌, Bool, true, false, nat_lt, length, map, Some}
use Rattle.rsp_decode.specs.declared.inst.Inst.{Inst}
use Rattle.rsp_decode.specs.declared.inst.Inst.TheVariants.{BranchSign, BranchEqual}
use Rattle.rsp_decode.specs.declared.scalar.BranchSignOp.TheVariants.{Bltz, Bgez, Blez, Bgtz}
use Rattle.rsp_decode.specs.Table.{inst_of}
use Rattle.rsp_scalar.specs.ScalarRules.{is_taken}
use Rattle.rsp_scalar.specs.Flow.{address_after}
use Rattle.rsp_machine.specs.State.{State, IsState}
use Rattle.rsp_machine.specs.Laws.{steps_of}
use Rattle.rsp_microcode.specs.Runs.{IsAt, goes_on}
use Rattle.rsp_microcode.specs.Frames.{of_rows, with_parts}
use Rattle.rsp_microcode.specs.Kept.{Spares}
use Rattle.rsp_microcode.specs.Ranges.{fits_word}
use Rattle.rsp_microcode.specs.Pieces.{code_of, pieces_fit, after_pieces, AreAligned}
use Rattle.rsp_microcode.specs.Loops.{Loop, loop_code, round_of}
use Rattle.rsp_microcode.specs.Blocks.{Ran}

-- the words that a branch skips, counted from its delay slot; 65536 - n if it goes back over n
abbrev pub offset_of : Inst → ℕ
offset_of (BranchEqual op rs rt offset) = offset
offset_of (BranchSign op rs offset) = offset
offset_of _ = 0

-- a branch that links nothing
abbrev pub is_plain : Inst → Bool
is_plain (BranchEqual op rs rt offset) = true
is_plain (BranchSign Bltz rs offset) = true
is_plain (BranchSign Bgez rs offset) = true
is_plain (BranchSign Blez rs offset) = true
is_plain (BranchSign Bgtz rs offset) = true
is_plain _ = false

-- the conditions that can be computed on pieces, a branch and its delay slot
abbrev pub is_block : Loop → Bool
is_block l = pieces_fit l.pieces && ((is_plain l.branch && nat_lt (offset_of l.branch) 65536) && (goes_on l.slot && fits_word l.slot))

-- whether the branch is taken
abbrev pub turns : Loop → State → Bool
turns l s = is_taken l.branch (after_pieces l.pieces s).registers

-- Steps over such a block go from s to t: t is the computed state, in its ranges. If the branch isn't taken, the block is as straight code;
-- if it is, pc is at its target. All that no instruction may change is as it was.
pub record AfterBlock (l : Loop) (s t : State) : Type 0 where
  pub ran : t ≡ round_of l s
  pub ranges : IsState t
  pub passed : turns l s ≡ false → Ran l.words (loop_code l) s t
  pub turned : turns l s ≡ true → t.pc ≡ (s.pc + 4 * (length (code_of l.pieces) + 1 + offset_of l.branch)) % 4096
  pub next : t.npc ≡ address_after t.pc
  pub spares : Spares (loop_code l) s t
  pub frame : t ≡ with_parts (of_rows (loop_code l)) s t

abbrev pub BlockRuns : Type 0
BlockRuns = (l : Loop) → map inst_of l.words ≡ map Some (loop_code l) → is_block l ≡ true
    → (s : State) → IsState s → IsAt l.words s → AreAligned l.pieces s
    → AfterBlock l s (steps_of (length l.words) s)
