-- Which instructions are moves between the scalar registers and the SP registers.
use Rattle.std.proofs.Common.{◌≡◌, ℕ, Bool, subst, refl, sym, ap, Option, Some, None}
use Rattle.std.specs.Prelude.{IfSome}
use Rattle.rsp_decode.specs.declared.inst.Inst.{Inst}
use Rattle.rsp_decode.specs.declared.inst.Inst.TheVariants.{MoveSp}
use Rattle.rsp_decode.specs.declared.scalar.MoveOp.{MoveOp}
use Rattle.rsp_decode.specs.Table.{inst_of, IsInstruction}
use Rattle.rsp_decode.specs.Visit.{after_visit}
use Rattle.rsp_decode.proofs.InstructionOfWord.{decoded_instruction}
use Rattle.rsp_machine.specs.State.{State}
use Rattle.rsp_machine.specs.Until.{refuses_by}
use Rattle.rsp_debug.specs.declared.stop.Stop.{Stop}
use Rattle.rsp_debug.specs.declared.moves.Moves.{Moves}
use Rattle.rsp_debug.specs.declared.moves.KeptMove.{KeptMove}
use Rattle.rsp_debug.specs.Moves.{is_asked, move_by}
use Rattle.rsp_debug.specs.Runs.{move_of, Refuses}

-- a move that is asked for is one that a test refuses
pub asked-is : (refuses : MoveOp → ℕ → Bool) (moves : Moves) → Refuses refuses moves → (o : Option Inst) → is_asked moves o ≡ refuses_by refuses o
asked-is refuses moves same None = refl
asked-is refuses moves same (Some (MoveSp op rt r)) = sym (same op r)
asked-is refuses moves same (Some _) = refl

-- what is kept of a word
pub asked-of : (moves : Moves) (o : Option Inst) → is_asked moves (move_of o) ≡ is_asked moves o
asked-of moves None = refl
asked-of moves (Some (MoveSp op rt r)) = refl
asked-of moves (Some _) = refl

pub move-by-of : (o : Option Inst) (stop : Stop) (s : State) → move_by (move_of o) stop s ≡ move_by o stop s
move-by-of None stop s = refl
move-by-of (Some (MoveSp op rt r)) stop s = refl
move-by-of (Some _) stop s = refl

pub kept-of : (o : Option Inst) (k : KeptMove) → k ≡ after_visit (λ i _. record { inst = move_of (Some i) }) o (record { inst = None }) → k.inst ≡ move_of o
kept-of None k e = ap (λ (x : KeptMove). x.inst) e
kept-of (Some i) k e = ap (λ (x : KeptMove). x.inst) e

fits-move : (o : Option Inst) → IfSome o IsInstruction → IfSome (move_of o) IsInstruction
fits-move None h = tt
fits-move (Some (MoveSp op rt r)) h = h
fits-move (Some _) h = tt

pub fits-of : (w : ℕ) (m : Option Inst) → m ≡ move_of (inst_of w) → IfSome m IsInstruction
fits-of w m e = let P : Option Inst → Type 0 = λ o. IfSome o IsInstruction in subst P (sym e) (fits-move (inst_of w) (decoded_instruction w (inst_of w) refl))

pub ruleset moving = (asked-of, move-by-of)
