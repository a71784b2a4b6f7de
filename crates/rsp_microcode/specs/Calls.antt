-- Calls: a routine that ends with `jr $31`, and a `jal` to it.
use Rattle.std.specs.Prelude.{ℕ, ◌≡◌, ◌*◌, ◌/◌, ◌%◌, ◌&&◌, Bool, true, List, [], ◌∷◌, ◌++◌, length, map, Some}
use Rattle.rsp_decode.specs.declared.inst.Inst.{Inst}
use Rattle.rsp_decode.specs.declared.inst.Inst.TheVariants.{JumpRegister, Jump}
use Rattle.rsp_decode.specs.declared.scalar.JumpOp.TheVariants.{Jal}
use Rattle.rsp_decode.specs.Table.{inst_of}
use Rattle.rsp_scalar.specs.Registers.{register}
use Rattle.rsp_scalar.specs.Flow.{address_after}
use Rattle.rsp_machine.specs.State.{State, IsState}
use Rattle.rsp_machine.specs.Step.{executed}
use Rattle.rsp_machine.specs.Laws.{steps_of}
use Rattle.rsp_microcode.specs.Runs.{IsAt, Stand, goes_on, address_after_words}
use Rattle.rsp_microcode.specs.Frames.{of_rows, with_parts, spare_scalar}
use Rattle.rsp_microcode.specs.Ranges.{fits_word}
use Rattle.rsp_microcode.specs.Kept.{write_only, Spares, with_written_at}
use Rattle.rsp_microcode.specs.Pieces.{Piece, code_of, pieces_fit, after_pieces, AreAligned}

-- pieces, `jr $31`, and one more instruction in its delay slot
pub record Routine : Type 0 where
  pub words : List ℕ
  pub pieces : List Piece
  pub slot : Inst

abbrev pub routine_code : Routine → List Inst
routine_code r = code_of r.pieces ++ JumpRegister 31 ∷ r.slot ∷ []

-- the conditions on a routine that can be computed, among them: its pieces don't write register 31, which has the return address
abbrev pub is_routine : Routine → Bool
is_routine r = (pieces_fit r.pieces && spare_scalar 31 (code_of r.pieces)) && (goes_on r.slot && fits_word r.slot)

-- the address in IMEM that `jr $31` jumps to
abbrev pub return_of : State → ℕ
return_of s = register s.registers 31 / 4 % 1024 * 4

-- A routine goes from s to t: t is the computed state, in its ranges, at the return address. All else is as it was, as after pieces.
pub record AfterRoutine (r : Routine) (s t : State) : Type 0 where
  pub ran : t ≡ executed r.slot (executed (JumpRegister 31) (after_pieces r.pieces s))
  pub ranges : IsState t
  pub spares : Spares (routine_code r) s t
  pub frame : t ≡ with_parts (of_rows (routine_code r)) s t
  pub others : (ns ms : List ℕ) → write_only ns ms (routine_code r) ≡ true → t ≡ with_written_at (return_of s) (address_after (return_of s)) (routine_code r) ns ms s t

abbrev pub RoutineRuns : Type 0
RoutineRuns = (r : Routine) → map inst_of r.words ≡ map Some (routine_code r) → is_routine r ≡ true
    → (s : State) → IsState s → IsAt r.words s → AreAligned r.pieces s
    → AfterRoutine r s (steps_of (length r.words) s)

-- `jal`, and one more instruction in its delay slot, which doesn't write register 31
abbrev pub call_code : ℕ → Inst → List Inst
call_code target slot = Jump Jal target ∷ slot ∷ []

-- A call goes from s to t: the words at its target are executed next, and register 31 holds the address of the word after the delay slot.
pub record AfterCall (words : List ℕ) (target : ℕ) (slot : Inst) (s t : State) : Type 0 where
  pub ran : t ≡ executed slot (executed (Jump Jal target) s)
  pub ranges : IsState t
  pub spares : Spares (call_code target slot) s t
  pub at : (ws : List ℕ) → Stand ws (target * 4 % 4096) s.imem → IsAt ws t
  pub back : return_of t ≡ address_after_words words s.pc

abbrev pub CallRuns : Type 0
CallRuns = (words : List ℕ) (target : ℕ) (slot : Inst) → map inst_of words ≡ map Some (call_code target slot)
    → (goes_on slot && fits_word slot) ≡ true → spare_scalar 31 (slot ∷ []) ≡ true
    → (s : State) → IsState s → IsAt words s
    → AfterCall words target slot s (steps_of (length words) s)
