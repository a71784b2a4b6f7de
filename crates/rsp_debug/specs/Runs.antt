-- Scaffolding of proofs: what the loop of a run tests. Stops has the meaning.
use Rattle.std.specs.Prelude.{◌≡◌, ◌⊎◌, ◌==◌, ℕ, List, [], ◌∷◌, length, Bool, false, Option, Some, None, option_map, if◌then◌else◌}
use Rattle.std.specs.Int.{bit_at}
use Rattle.rsp_decode.specs.declared.inst.Inst.{Inst}
use Rattle.rsp_decode.specs.declared.inst.Inst.TheVariants.{MoveSp}
use Rattle.rsp_decode.specs.declared.scalar.MoveOp.{MoveOp}
use Rattle.rsp_machine.specs.State.{State}
use Rattle.rsp_machine.specs.Pass.{is_write}
use Rattle.rsp_debug.specs.declared.snapshot.Snapshot.{Snapshot}
use Rattle.rsp_debug.specs.declared.stop.Reason.{Reason}
use Rattle.rsp_debug.specs.declared.stop.Reason.TheVariants.{Reserved, Halted, Watched, Break}
use Rattle.rsp_debug.specs.declared.moves.Moves.{Moves}
use Rattle.rsp_debug.specs.Stops.{is_reserved, is_break, when, first_of, IsStop}
use Rattle.rsp_debug.specs.Snapshots.{differs}
use Rattle.rsp_debug.specs.declared.stop.Watch.{Watch}
use Rattle.rsp_debug.specs.declared.stop.Stop.{Stop}
use Rattle.rsp_debug.specs.History.{history_after_steps}
use Rattle.rsp_debug.specs.HistoryRing.{Records, states_before}

-- the instruction, if it is an MFC0 or MTC0
abbrev pub move_of : Option Inst → Option Inst
move_of (Some (MoveSp op rt r)) = Some (MoveSp op rt r)
move_of _ = None

-- whether a move is one of some moves, by its direction and its SP register
abbrev pub has_move : Moves → MoveOp → ℕ → Bool
has_move moves op register = bit_at (if is_write op then moves.writes else moves.reads) register == 1

-- why a machine can't make a step
abbrev pub step_refusal : State → Option Reason
step_refusal s = first_of (when (is_reserved s) Reserved ∷ when s.sp.halted Halted ∷ [])

-- the watch or the breakpoint that a step has come to
abbrev pub hit_in : List Bool → List (Option Snapshot) → State → Option Reason
hit_in breaks snapshots s = first_of (option_map Watched (differs snapshots s.dmem) ∷ when (is_break breaks s.pc) Break ∷ [])

-- A test ends a stretch of steps wherever there may be a watch or a breakpoint to stop at: if it doesn't, pc has no breakpoint, and the
-- step before left DMEM as it was, or there are no watches.
abbrev pub Asks : (ℕ → ℕ → Bool → Bool) → List Bool → List (Option Snapshot) → Type 0
Asks ends breaks snapshots = (pc word : ℕ) (changes_memory : Bool) → ends pc word changes_memory ≡ false
    → (is_break breaks pc ≡ false) × ((changes_memory ≡ false) ⊎ (length snapshots ≡ 0))

-- A test refuses exactly some moves.
abbrev pub Refuses : (MoveOp → ℕ → Bool) → Moves → Type 0
Refuses refuses moves = (op : MoveOp) (register : ℕ) → refuses op register ≡ has_move moves op register

-- k steps lead from s to t, and take the records of the history from h to g
pub record AreKept (k : ℕ) (s t : State) (h g : Records) : Type 0 where
  pub past : states_before t g.newest ≡ history_after_steps k h.depth s (states_before s h.newest)
  pub depth : g.depth ≡ h.depth

-- a run of at most n steps stops so, in the state t and with the records g
pub record IsRun (breaks : List Bool) (watches : List (Option Watch)) (n : ℕ) (s t : State) (h g : Records) (stop : Stop) : Type 0 where
  pub end : IsStop breaks watches n s t stop
  pub kept : AreKept stop.steps s t h g
