-- Where runs end.
use Rattle.std.proofs.Common.{◌≡◌, ℕ, ◌-◌, ◌≤◌, List, [], ◌∷◌, refl, ap, sym, subst, ◌∙◌, arith, Bool, true, false, cond, Option, Some, None}
use Rattle.std.specs.Prelude.{not, is_some, unwrap_or, nat_lt, option_map, ◌&&◌, ◌==◌}
use Rattle.rsp_machine.specs.State.{State}
use Rattle.rsp_machine.specs.Laws.{steps_of}
use Rattle.rsp_debug.specs.Stops.{is_break, is_reserved, when, first_of, reason_at, run_steps, stop_of, IsStop}
use Rattle.std.specs.Int.{bit_at}
use Rattle.std.proofs.lemmas.Nat.Bits.{bit_at-zero}
use Rattle.rsp_memory.specs.Memory.{word_at}
use Rattle.rsp_decode.specs.declared.inst.Inst.{Inst}
use Rattle.rsp_decode.specs.declared.inst.Inst.TheVariants.{MoveSp}
use Rattle.rsp_machine.specs.Pass.{is_write}
use Rattle.rsp_decode.specs.Table.{inst_of}
use Rattle.rsp_debug.specs.declared.moves.Moves.{Moves}
use Rattle.rsp_debug.specs.declared.moves.MoveEnd.{MoveEnd}
use Rattle.rsp_debug.specs.declared.moves.MoveEnd.TheVariants as end
use Rattle.rsp_debug.specs.Moves.{no_moves, is_asked, is_at_move, is_limit, move_by, steps_to_move, end_by, end_steps, move_end_of}
use Rattle.rsp_debug.specs.declared.snapshot.Snapshot.{Snapshot}
use Rattle.rsp_debug.specs.Snapshots.{watches_of}
use Rattle.rsp_debug.specs.HistoryRing.{Records, states_before}
use Rattle.rsp_debug.specs.Debugging.{Debugging, after_steps, after_run}
use Rattle.rsp_debug.proofs.Least.{least-is, least-only}
use Rattle.rsp_debug.proofs.Stretches.{made-is}
use Rattle.rsp_debug.specs.Runs.{has_move, Refuses, IsRun}
use Rattle.rsp_debug.specs.declared.stop.Watch.{Watch}
use Rattle.rsp_debug.specs.declared.stop.Reason.{Reason}
use Rattle.rsp_debug.specs.declared.stop.Reason.TheVariants.{Reserved, Halted, Watched, Break, Limit}
use Rattle.rsp_debug.specs.declared.stop.Stop.{Stop}
use Rattle.rsp_debug.proofs.WatchChanges.{AreSnapshots}

-- a stop is the one that the definition gives
pub steps-are : (b : List Bool) (w : List (Option Watch)) (n : ℕ) (s t : State) (stop : Stop) → IsStop b w n s t stop → run_steps b w n s ≡ stop.steps
unfolding run_steps
steps-are b w n s t stop is =
    least-only (λ k. is_some (reason_at b w n s k)) n stop.steps (record { within = is.within; before = λ j h. ap is_some (is.first j h); here = λ h. ap is_some is.reason })

abbrev made : Reason → ℕ → ℕ → Stop
made r k pc = record { reason = r; steps = k; pc = pc }

pub stop-is : (b : List Bool) (w : List (Option Watch)) (n : ℕ) (s t : State) (stop : Stop) → IsStop b w n s t stop → stop ≡ stop_of b w n s
unfolding stop_of
stop-is b w n s t stop is =
    ap (λ pc. made stop.reason stop.steps pc) (is.pc ∙ ap (λ (x : State). x.pc) is.reached)
    ∙ ap (λ o. made (unwrap_or o Limit) stop.steps (steps_of stop.steps s).pc) (sym is.reason)
    ∙ ap (λ k. made (unwrap_or (reason_at b w n s k) Limit) k (steps_of k s).pc) (sym (steps-are b w n s t stop is))

-- a run with some snapshots is one with their watches
watched_reason : (b : List Bool) (w : List (Option Watch)) (dmem : List ℕ) (snapshots : List (Option Snapshot)) (n k : ℕ) (s : State) → AreSnapshots w dmem snapshots
    → reason_at b w n s k ≡ reason_at b (watches_of snapshots) n s k
unfolding reason_at
watched_reason b w dmem snapshots n k s are =
    let before = steps_of (k - 1) s in let t = steps_of k s in
    ap (λ o. first_of (when (is_reserved t) Reserved ∷ when t.sp.halted Halted ∷ cond (nat_lt 0 k) (option_map Watched o) None ∷ when (nat_lt 0 k && is_break b t.pc) Break ∷ when (k == n) Limit ∷ []))
    (sym (are.changed before.dmem t.dmem))

pub watched-run : (b : List Bool) (w : List (Option Watch)) (dmem : List ℕ) (snapshots : List (Option Snapshot)) (n : ℕ) (s t : State) (h g : Records) (stop : Stop) → AreSnapshots w dmem snapshots
    → IsRun b (watches_of snapshots) n s t h g stop → IsRun b w n s t h g stop
watched-run b w dmem snapshots n s t h g stop are is = record {
  end = record {
    within = is.end.within;
    reached = is.end.reached;
    reason = watched_reason b w dmem snapshots n stop.steps s are ∙ is.end.reason;
    first = λ j l. watched_reason b w dmem snapshots n j s are ∙ is.end.first j l;
    pc = is.end.pc;
  };
  kept = is.kept;
}

-- if no move is asked for, none comes
zero_bit : (b : Bool) (r : ℕ) → (bit_at (cond b 0 0) r == 1) ≡ false
zero_bit true r = ap (λ x. x == 1) (bit_at-zero r)
zero_bit false r = ap (λ x. x == 1) (bit_at-zero r)

pub never-asked : (o : Option Inst) → is_asked no_moves o ≡ false
never-asked None = refl
never-asked (Some (MoveSp op rt r)) = zero_bit (is_write op) r
never-asked (Some _) = refl

pub not_next : (halted asked : Bool) → asked ≡ false → not halted && asked ≡ false
not_next true asked e = refl
not_next false asked e = e

pub unmoved : (moves : Moves) (s : State) → moves ≡ no_moves → is_at_move moves s ≡ false
unmoved moves s none = ap (λ (x : Moves). is_at_move x s) none ∙ not_next s.sp.halted _ (never-asked (inst_of (word_at s.imem s.pc)))

pub unmoved-run : (b : List Bool) (w : List (Option Watch)) (moves : Moves) (n : ℕ) (s t : State) (h g : Records) (stop : Stop) → moves ≡ no_moves → IsRun b w (steps_to_move moves n s) s t h g stop
    → IsRun b w n s t h g stop
unfolding steps_to_move
unmoved-run b w moves n s t h g stop none is =
    subst (λ (x : ℕ). IsRun b w x s t h g stop)
    (least-only (λ k. is_at_move moves (steps_of k s)) n n (record { within = omega arith; before = λ k l. unmoved moves (steps_of k s) none; here = λ l. absurd (omega (arith, l)) })) is

-- where no moves are asked for, none is refused
pub none-refused : (moves : Moves) → moves ≡ no_moves → Refuses (λ op register. false) moves
none-refused moves none op register = sym (ap (λ (x : Moves). has_move x op register) none ∙ zero_bit (is_write op) register)

-- the end of a run that also ends before moves is the one that the definition gives
pub move-end-is : (b : List Bool) (w : List (Option Watch)) (moves : Moves) (n : ℕ) (s t : State) (stop : Stop) (r : MoveEnd) → IsStop b w (steps_to_move moves n s) s t stop → r ≡ end_by moves stop t
    → r ≡ move_end_of b w moves n s
unfolding move_end_of
move-end-is b w moves n s t stop r is e =
    e ∙ ap (λ (x : State). end_by moves stop x) is.reached ∙ ap (λ (x : Stop). end_by moves x (steps_of x.steps s)) (stop-is b w (steps_to_move moves n s) s t stop is)

-- it makes no more steps than the run may make
end_steps_by : (b : Bool) (o : Option Inst) (stop : Stop) (s : State) → end_steps (cond b (move_by o stop s) (end.Stop stop)) ≡ stop.steps
end_steps_by true None stop s = refl
end_steps_by true (Some (MoveSp op rt r)) stop s = refl
end_steps_by true (Some _) stop s = refl
end_steps_by false o stop s = refl

pub move-end-within : (b : List Bool) (w : List (Option Watch)) (moves : Moves) (n : ℕ) (s t : State) (stop : Stop) (r : MoveEnd) → IsStop b w (steps_to_move moves n s) s t stop → r ≡ end_by moves stop t
    → end_steps r ≤ n
unfolding steps_to_move
move-end-within b w moves n s t stop r is e =
    let same : end_steps r ≡ stop.steps = ap end_steps e ∙ end_steps_by (is_limit stop.reason && is_at_move moves t) (inst_of (word_at t.imem t.pc)) stop t in
    omega (arith, same, is.within, (least-is (λ k. is_at_move moves (steps_of k s)) n).within)

-- a debugger after a run
abbrev debugging : List Bool → List (Option Watch) → State → Records → Debugging
debugging b w s h = record { state = s; breaks = b; watches = w; past = states_before s h.newest; depth = h.depth }

pub ran-is : (b : List Bool) (w : List (Option Watch)) (n : ℕ) (s t : State) (h g : Records) (stop : Stop) → IsRun b w n s t h g stop → debugging b w t g ≡ after_run n (debugging b w s h)
ran-is b w n s t h g stop is =
    let d = debugging b w s h in
    rw (is.kept.past, is.kept.depth, is.end.reached) (sym (made-is stop.steps d) ∙ ap (λ k. after_steps k d) (sym (steps-are b w n s t stop is.end)))
