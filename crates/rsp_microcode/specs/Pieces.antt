-- Straight microcode by pieces: whole loads, sums of multiplies, clip codes, whole stores, and any other instructions. The state after them
-- can be computed.
use Rattle.std.specs.Prelude.{ℕ, ◌≡◌, ◌%◌, ◌&&◌, Bool, true, nat_lt, List, [], ◌∷◌, ◌++◌, length, map, Some}
use Rattle.std.specs.List.{list_all}
use Rattle.rsp_decode.specs.declared.inst.Inst.{Inst}
use Rattle.rsp_decode.specs.declared.fields.VectorFields.{VectorFields}
use Rattle.rsp_decode.specs.Table.{inst_of}
use Rattle.rsp_scalar.specs.Registers.{register}
use Rattle.rsp_scalar.specs.Flow.{address_after}
use Rattle.rsp_loadstore.specs.File.{vector, with_vector}
use Rattle.rsp_machine.specs.State.{State, IsState}
use Rattle.rsp_machine.specs.Laws.{steps_of}
use Rattle.rsp_microcode.specs.Runs.{IsAt, all_go_on, ran_through, address_after_words}
use Rattle.rsp_microcode.specs.Frames.{of_rows, with_parts}
use Rattle.rsp_microcode.specs.Kept.{write_only, Spares, with_written}
use Rattle.rsp_microcode.specs.Ranges.{all_fit}
use Rattle.rsp_microcode.specs.Lanes.{sqv, with_lanes, lanes_address}
use Rattle.rsp_microcode.specs.Reads.{after_writes}
use Rattle.rsp_microcode.specs.Loads.{WholeLoad, load_of, load_fits, loaded, AreAllAligned}
use Rattle.rsp_microcode.specs.Multiplies.{Term, instruction, independent, is_sum, summed}
use Rattle.rsp_microcode.specs.Clips.{clip_code, clip_fits, clipped}

pub data Piece : Type 0 where
  takes : List WholeLoad → Piece  -- LQV of whole registers
  sums : List Term → Piece  -- a multiply and those that add to it
  clips : (high low : VectorFields) → Piece  -- VCH of high halves, and VCL of the low ones
  puts : (vt offset base : ℕ) → Piece  -- SQV of a whole register
  rows : List Inst → Piece  -- instructions that go on, of any other kind

abbrev pub code_of : List Piece → List Inst
code_of [] = []
code_of (takes ls ∷ ps) = map load_of ls ++ code_of ps
code_of (sums ms ∷ ps) = map instruction ms ++ code_of ps
code_of (clips high low ∷ ps) = clip_code high low ++ code_of ps
code_of (puts vt offset base ∷ ps) = sqv vt offset base ∷ code_of ps
code_of (rows is ∷ ps) = is ++ code_of ps

-- the conditions on a piece that can be computed: its fields are those of words, and its instructions go on
abbrev pub piece_fits : Piece → Bool
piece_fits (takes ls) = list_all load_fits ls
piece_fits (sums ms) = independent ms && is_sum ms
piece_fits (clips high low) = clip_fits high low
piece_fits (puts vt offset base) = nat_lt vt 32 && nat_lt offset 64
piece_fits (rows is) = all_go_on is && all_fit is

abbrev pub pieces_fit : List Piece → Bool
pieces_fit ps = list_all piece_fits ps

-- the state after it
abbrev pub after_piece : Piece → State → State
after_piece (takes ls) s = record s { pc = address_after_words ls s.pc; npc = address_after_words ls s.npc; vectors = after_writes with_vector (loaded ls s.dmem s.registers) s.vectors }
after_piece (sums ms) s = summed ms s
after_piece (clips high low) s = clipped high low s
after_piece (puts vt offset base) s = record s { pc = s.npc; npc = address_after s.npc; dmem = with_lanes s.dmem (lanes_address offset base s) (vector s.vectors vt) }
after_piece (rows is) s = ran_through is s

abbrev pub after_pieces : List Piece → State → State
after_pieces [] s = s
after_pieces (p ∷ ps) s = after_pieces ps (after_piece p s)

-- what a caller has to show: aligned addresses
abbrev pub AreAligned : List Piece → State → Type 0
AreAligned [] s = Unit {0}
AreAligned (takes ls ∷ ps) s = AreAllAligned ls s.registers × AreAligned ps (after_piece (takes ls) s)
AreAligned (sums ms ∷ ps) s = AreAligned ps (after_piece (sums ms) s)
AreAligned (clips high low ∷ ps) s = AreAligned ps (after_piece (clips high low) s)
AreAligned (puts vt offset base ∷ ps) s = (register s.registers base % 16 ≡ 0) × AreAligned ps (after_piece (puts vt offset base) s)
AreAligned (rows is ∷ ps) s = AreAligned ps (after_piece (rows is) s)

-- A run through pieces comes to the state that `after_pieces` computes, in its ranges.
abbrev pub RunsOfPieces : Type 0
RunsOfPieces = (ps : List Piece) (s : State) → IsState s → s.npc ≡ address_after s.pc → pieces_fit ps ≡ true → AreAligned ps s
    → (ran_through (code_of ps) s ≡ after_pieces ps s) × IsState (after_pieces ps s)

-- Steps over pieces go from s to t: t is the computed state, in its ranges. pc is after the words, and all that no instruction may change
-- is as it was. So are all registers outside of lists that name each register that is written.
pub record AfterPieces (words : List ℕ) (ps : List Piece) (s t : State) : Type 0 where
  pub ran : t ≡ after_pieces ps s
  pub ranges : IsState t
  pub spares : Spares (code_of ps) s t
  pub frame : t ≡ with_parts (of_rows (code_of ps)) s t
  pub others : (ns ms : List ℕ) → write_only ns ms (code_of ps) ≡ true → t ≡ with_written words (code_of ps) ns ms s t

abbrev pub PiecesRun : Type 0
PiecesRun = (words : List ℕ) (ps : List Piece) → map inst_of words ≡ map Some (code_of ps) → pieces_fit ps ≡ true
    → (s : State) → IsState s → IsAt words s → AreAligned ps s
    → AfterPieces words ps s (steps_of (length words) s)
