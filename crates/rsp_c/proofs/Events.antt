-- What an event comes to: as many steps as it reports, and a DMA that is next.
use Rattle.std.proofs.Common.{◌≡◌, ℕ, ◌+◌, ◌<◌, ◌≤◌, ◌⊎◌, inr, ◌==◌, Bool, true, false, List, [], ◌∷◌, refl, ap, sym, ◌∙◌, subst, arith, Option, Some, None}
use Rattle.std.proofs.lemmas.Grind.{common_steps}
use Rattle.std.specs.Prelude.{not, ◌&&◌, ◌||◌, cond, if◌then◌else◌, is_none, is_some, unwrap_or, Result, Ok, Err, IsOkAnd}
use Rattle.rsp_memory.specs.Memory.{word_at}
use Rattle.rsp_decode.specs.declared.inst.Inst.{Inst}
use Rattle.rsp_decode.specs.declared.inst.Inst.TheVariants.{MoveSp}
use Rattle.rsp_decode.specs.declared.scalar.MoveOp.{MoveOp}
use Rattle.rsp_decode.specs.declared.scalar.MoveOp.TheVariants.{From, To}
use Rattle.rsp_decode.specs.Table.{inst_of}
use Rattle.rsp_scalar.specs.Registers.{register}
use Rattle.rsp_regs.specs.Sp.{Sp, is_length_register, after_register_write}
use Rattle.rsp_regs.specs.Dma.{copied_in, copied_out}
use Rattle.rsp_regs.specs.Described.{no_dma, dma_of, described}
use Rattle.rsp_regs.specs.declared.dma.Dma.{Dma}
use Rattle.rsp_machine.specs.State.{State, IsState, advanced}
use Rattle.rsp_machine.specs.Step.{step_of, step_by, executed, instruction_effect, moves_sp, after_single_step}
use Rattle.rsp_machine.specs.Laws.{steps_of}
use Rattle.rsp_machine.specs.Pass.{is_write, pass_dma_of}
use Rattle.rsp_machine.specs.Transfers.{starts_dma_in, starts_dma_at}
use Rattle.rsp_machine.specs.DescribedDmas.{described_pairs, moved_as_described}
use Rattle.rsp_machine.specs.declared.step.StepEnd.TheVariants as answer
use Rattle.rsp_machine.specs.declared.pass.PassFault.{PassFault}
use Rattle.rsp_machine.specs.declared.pass.PassFault.TheVariants as fault
use Rattle.rsp_machine.proofs.Described.{described_moves}
use Rattle.rsp_debug.specs.declared.stop.Watch.{Watch}
use Rattle.rsp_debug.specs.declared.stop.Reason.{Reason}
use Rattle.rsp_debug.specs.declared.stop.Reason.TheVariants as why
use Rattle.rsp_debug.specs.declared.stop.Stop.{Stop}
use Rattle.rsp_debug.specs.declared.moves.Moves.{Moves}
use Rattle.rsp_debug.specs.declared.moves.MoveEnd.{MoveEnd}
use Rattle.rsp_debug.specs.declared.moves.MoveEnd.TheVariants as end
use Rattle.rsp_debug.specs.Stops.{when, first_of, reason_at, run_steps, stop_of}
use Rattle.rsp_debug.specs.Moves.{is_asked, is_limit, move_by, steps_to_move, end_steps, move_end_of}
use Rattle.rsp_debug.specs.Debugging.{Debugging, after_run, move_end_in, after_run_until_move}
use Rattle.rsp_debug.proofs.Stretches.{made-state}
use Rattle.rsp_debug.proofs.Reasons.{steps-more}
use Rattle.rsp_c.specs.ToC.{reason_number}
use Rattle.rsp_c.specs.Events.{event_moves, event_end, c_reached, is_status_write, status_reason, c_after_status, asks_status, end_in, before_event}
use Rattle.rsp_c.specs.Laws.{EventsAreSteps}

-- a machine that executes this move next
record IsNext (t : State) (r : ℕ) (writes : Bool) (value : ℕ) : Type 0 where
  op : MoveOp
  rt : ℕ
  running : t.sp.halted ≡ false
  inst : inst_of (word_at t.imem t.pc) ≡ Some (MoveSp op rt r)
  direction : is_write op ≡ writes
  read : register t.registers rt ≡ value

-- a run that ends before a move has come to it
record IsMove (o : Option Inst) (t : State) (r : ℕ) (writes : Bool) (value : ℕ) : Type 0 where
  op : MoveOp
  rt : ℕ
  inst : o ≡ Some (MoveSp op rt r)
  direction : is_write op ≡ writes
  read : register t.registers rt ≡ value

move_is : (o : Option Inst) (stop : Stop) (t : State) (k pc r : ℕ) (writes : Bool) (value : ℕ) → move_by o stop t ≡ end.Move k pc r writes value → IsMove o t r writes value
move_is None stop t k pc r writes value e = cc
move_is (Some (MoveSp op rt x)) stop t k pc r writes value e = record { op = op; rt = rt; inst = cc; direction = cc; read = cc }
move_is (Some _) stop t k pc r writes value e = cc

next_is : (limit halted asked : Bool) (o : Option Inst) (stop : Stop) (t : State) (k pc r : ℕ) (writes : Bool) (value : ℕ)
    → cond (limit && (not halted && asked)) (move_by o stop t) (end.Stop stop) ≡ end.Move k pc r writes value → (halted ≡ false) × IsMove o t r writes value
next_is true false true o stop t k pc r writes value e = (refl, move_is o stop t k pc r writes value e)
next_is true false false o stop t k pc r writes value e = cc
next_is true true asked o stop t k pc r writes value e = cc
next_is false halted asked o stop t k pc r writes value e = cc

ran_to : (m : ℕ) (d : Debugging) → (after_run m d).state ≡ steps_of (stop_of d.breaks d.watches m d.state).steps d.state
unfolding stop_of
ran_to m d = made-state (run_steps d.breaks d.watches m d.state) d

next_at : (n : ℕ) (moves : Moves) (d : Debugging) (k pc r : ℕ) (writes : Bool) (value : ℕ) → move_end_in n moves d ≡ end.Move k pc r writes value
    → IsNext (after_run_until_move n moves d).state r writes value
unfolding move_end_of
next_at n moves d k pc r writes value e =
    let m = steps_to_move moves n d.state in
    let stop = stop_of d.breaks d.watches m d.state in
    let t = steps_of stop.steps d.state in
    let o = inst_of (word_at t.imem t.pc) in
    let is = next_is (is_limit stop.reason) t.sp.halted (is_asked moves o) o stop t k pc r writes value e in
    subst (λ (x : State). IsNext x r writes value) (sym (ran_to m d))
    (record { op = is.1.op; rt = is.1.rt; running = is.0; inst = is.1.inst; direction = is.1.direction; read = is.1.read })

event_move : (n : ℕ) (e : MoveEnd) (k pc r : ℕ) (writes : Bool) (value : ℕ) → event_end n e ≡ end.Move k pc r writes value → e ≡ end.Move k pc r writes value
event_move n (end.Stop stop) k pc r writes value e = cc
event_move n (end.Move j q x w v) k pc r writes value e = by (j == n) e
  where
    by : (b : Bool) → cond b (end.Stop (record { reason = why.Limit; steps = j; pc = q })) (end.Move j q x w v) ≡ end.Move k pc r writes value
        → end.Move j q x w v ≡ end.Move k pc r writes value
    by true f = cc
    by false f = f

-- a machine that executes a move next makes one step in a run of one
free_by : (halted : Bool) (o : Option Inst) (i : Inst) → halted ≡ false → o ≡ Some i
    → is_some (first_of (when (not halted && is_none o) why.Reserved ∷ when halted why.Halted ∷ None ∷ None ∷ None ∷ [])) ≡ false
free_by false (Some j) i e f = refl
free_by false None i e f = cc
free_by true o i e f = cc

one_step : (b : List Bool) (w : List (Option Watch)) (t : State) (r : ℕ) (writes : Bool) (value : ℕ) → IsNext t r writes value → run_steps b w 1 t ≡ 1
unfolding run_steps reason_at steps_of
one_step b w t r writes value is = ap (λ x. cond x 0 1) (free_by t.sp.halted (inst_of (word_at t.imem t.pc)) (MoveSp is.op is.rt r) is.running is.inst)

one_more : (d : Debugging) (r : ℕ) (writes : Bool) (value : ℕ) → IsNext d.state r writes value → (after_run 1 d).state ≡ (step_of d.state).1
unfolding steps_of
one_more d r writes value is = made-state (run_steps d.breaks d.watches 1 d.state) d ∙ ap (λ k. steps_of k d.state) (one_step d.breaks d.watches d.state r writes value is)

-- the step of a write of SP_STATUS, before which a run has ended, is one more
status_step : (n : ℕ) (moves : Moves) (d : Debugging) (e : MoveEnd) → event_end n (move_end_in n moves d) ≡ e → is_status_write e ≡ true
    → (after_run 1 (after_run_until_move n moves d)).state ≡ (step_of (after_run_until_move n moves d).state).1
status_step n moves d (end.Stop stop) is writes = cc
status_step n moves d (end.Move k pc r w v) is writes =
    one_more (after_run_until_move n moves d) r w v (next_at n moves d k pc r w v (event_move n (move_end_in n moves d) k pc r w v is))

-- the reasons of a run aren't those before a move or a DMA
other_reason : (r : Reason) → (reason_number r ≡ 5) ⊎ (reason_number r ≡ 6) → ⊥
other_reason why.Reserved e = omega (arith, e)
other_reason why.Halted e = omega (arith, e)
other_reason (why.Watched k) e = omega (arith, e)
other_reason why.Break e = omega (arith, e)
other_reason why.Limit e = omega (arith, e)

pub other-status : (r : Reason) (before now : Bool) → (status_reason r (reason_number r) before now ≡ 5) ⊎ (status_reason r (reason_number r) before now ≡ 6) → ⊥
other-status why.Reserved before now e = omega (arith, e)
other-status why.Halted before now e = omega (arith, e)
other-status (why.Watched k) before now e = omega (arith, e)
other-status why.Break before now e = omega (arith, e)
other-status why.Limit false true e = omega (arith, e)
other-status why.Limit true true e = omega (arith, e)
other-status why.Limit before false e = omega (arith, e)

-- the steps of an end before the limit, and what is left of n
pub reached-steps : (n : ℕ) (e : MoveEnd) (t : State) → (c_reached (event_end n e) t).at.stop.steps ≡ end_steps e
reached-steps n (end.Stop stop) t = refl
reached-steps n (end.Move k pc r w v) t = by (k == n)
  where
    by : (b : Bool) → (c_reached (if b then end.Stop (record { reason = why.Limit; steps = k; pc = pc }) else end.Move k pc r w v) t).at.stop.steps ≡ k
    by true = refl
    by false = refl

below : (k n : ℕ) → k ≤ n → (k == n) ≡ false → k < n
below k n within other = grind (arith, common_steps)

pub reached-left : (n : ℕ) (e : MoveEnd) (t : State) → end_steps e ≤ n → ((c_reached (event_end n e) t).at.stop.reason ≡ 5) ⊎ ((c_reached (event_end n e) t).at.stop.reason ≡ 6)
    → (c_reached (event_end n e) t).at.stop.steps < n
reached-left n (end.Stop stop) t within is = absurd (other_reason stop.reason is)
reached-left n (end.Move k pc r w v) t within is = by (k == n) refl is
  where
    by : (b : Bool) → (k == n) ≡ b → let x = c_reached (if b then end.Stop (record { reason = why.Limit; steps = k; pc = pc }) else end.Move k pc r w v) t in
        (x.at.stop.reason ≡ 5) ⊎ (x.at.stop.reason ≡ 6) → x.at.stop.steps < n
    by true e f = absurd (other_reason why.Limit f)
    by false e f = below k n within e

pub move-left : (n : ℕ) (e : MoveEnd) (k pc r : ℕ) (w : Bool) (v : ℕ) → event_end n e ≡ end.Move k pc r w v → end_steps e ≤ n → (end_steps e ≡ k) × (k < n)
move-left n (end.Stop stop) k pc r w v is within = cc
move-left n (end.Move j q x y u) k pc r w v is within = by (j == n) refl is
  where
    by : (b : Bool) → (j == n) ≡ b → cond b (end.Stop (record { reason = why.Limit; steps = j; pc = q })) (end.Move j q x y u) ≡ end.Move k pc r w v → (j ≡ k) × (k < n)
    by true e f = cc
    by false e f = let same : j ≡ k = cc in (same, subst (λ i. i < n) same (below j n within e))

-- ---- the step of a write of SP_STATUS

status_reached : (n k : ℕ) (moves : Moves) (d b : Debugging) (e : MoveEnd) → b ≡ after_run_until_move n moves d → b.state ≡ steps_of k d.state → event_end n (move_end_in n moves d) ≡ e
    → is_status_write e ≡ true → (after_run 1 b).state ≡ steps_of (k + 1) d.state
status_reached n k moves d b e after there is writes =
    ap (λ (x : Debugging). (after_run 1 x).state) after ∙ status_step n moves d e is writes
    ∙ ap (λ (x : Debugging). (step_of x.state).1) (sym after) ∙ ap (λ (x : State). (step_of x).1) there ∙ sym (steps-more k d.state)

-- the same as the code has it: a run from d ends so in b, which becomes u
pub stepped-once : (n k : ℕ) (moves : Moves) (d a b t u : Debugging) (e f : MoveEnd) (is : Bool) (pc r : ℕ) (writes : Bool) (value : ℕ)
    → a ≡ d → e ≡ move_end_in n moves a → b.state ≡ steps_of (end_steps e) a.state → end_steps e ≤ n → b ≡ after_run_until_move n moves a
    → f ≡ event_end n e → f ≡ end.Move k pc r writes value → is ≡ (writes && r == 4) → is ≡ true → t ≡ b → u ≡ after_run 1 t
    → u.state ≡ steps_of (k + 1) d.state
stepped-once n k moves d a b t u e f is pc r writes value from ended there within after limited move tested holds here made =
    let moved : event_end n e ≡ end.Move k pc r writes value = sym limited ∙ move in
    let counted = move-left n e k pc r writes value moved within in
    ap (λ (x : Debugging). x.state) made ∙ ap (λ (x : Debugging). (after_run 1 x).state) here
    ∙ status_reached n k moves a b (end.Move k pc r writes value) after (there ∙ ap (λ j. steps_of j a.state) counted.0) (ap (event_end n) (sym ended) ∙ moved) (sym tested ∙ holds)
    ∙ ap (λ (x : Debugging). steps_of (k + 1) x.state) from

-- ---- a DMA

-- what a pass over a DMA leaves is what a step leaves, once the bytes are copied as described
abbrev moved : Bool → Bool → Dma → State → State
moved out imem d s =
    if out then record s { rdram = copied_out (if imem then s.imem else s.dmem) s.rdram (described_pairs d) }
    else if imem then record s { imem = copied_in s.rdram s.imem (described_pairs d) }
    else record s { dmem = copied_in s.rdram s.dmem (described_pairs d) }

abbrev left : State → State → State
left s t = record t { dmem = s.dmem; imem = s.imem; rdram = s.rdram }

copied : (out imem : Bool) (d : Dma) (q : Sp) (s : State)
    → moved out imem d (left s (after_single_step (record (moved out imem d (advanced s)) { sp = q }))) ≡ after_single_step (record (moved out imem d (advanced s)) { sp = q })
copied true imem d q s = refl
copied false true d q s = refl
copied false false d q s = refl

starts : (a b : Bool) (x y d : Dma) → (if a then Some x else if b then Some y else None) ≡ Some d → (a || b) ≡ true
starts true b x y d e = refl
starts false true x y d e = refl
starts false false x y d e = cc

stepped : (rt r : ℕ) (t : State) (d : Dma) → IsState t → t.sp.halted ≡ false → inst_of (word_at t.imem t.pc) ≡ Some (MoveSp To rt r) → described r (register t.registers rt) t.sp ≡ Some d
    → (step_of t).1 ≡ after_single_step (record (moved_as_described d (advanced t)) { sp = after_register_write r (register t.registers rt) t.sp })
unfolding step_of executed instruction_effect moves_sp
stepped rt r t d is running inst e =
    let word = word_at t.imem t.pc in
    ap (λ b. (if b then (answer.Halted, t) else step_by (inst_of word) word t).1) running
    ∙ ap (λ o. (step_by o word t).1) inst
    ∙ ap after_single_step (described_moves r (register t.registers rt) (advanced t) d is.sp e)

passed : (rt r : ℕ) (t : State) → t.sp.halted ≡ false → inst_of (word_at t.imem t.pc) ≡ Some (MoveSp To rt r) → is_length_register r ≡ true
    → pass_dma_of t ≡ Ok (left t (step_of t).1)
unfolding pass_dma_of starts_dma_at
passed rt r t running inst length =
    let word = word_at t.imem t.pc in
    ap (λ b. if b then Err fault.Halted else if starts_dma_in (inst_of word) then Ok (left t (step_of t).1) else Err fault.OtherWord) running
    ∙ ap (λ o. if starts_dma_in o then Ok (left t (step_of t).1) else Err fault.OtherWord) inst
    ∙ ap (λ b. if b then Ok (left t (step_of t).1) else Err fault.OtherWord) length

-- passing over this DMA in a state, and copying the bytes, is a step
abbrev IsStep : Dma → State → Type 0
IsStep d s = IsOkAnd (pass_dma_of s) (λ t. moved_as_described d t ≡ (step_of s).1)

dma_step : (op : MoveOp) (rt r : ℕ) (t : State) (d : Dma) → is_write op ≡ true → IsState t → t.sp.halted ≡ false → inst_of (word_at t.imem t.pc) ≡ Some (MoveSp op rt r)
    → described r (register t.registers rt) t.sp ≡ Some d → IsStep d t
dma_step From rt r t d direction is running inst e = cc
dma_step To rt r t d direction is running inst e =
    let v = register t.registers rt in
    let length : is_length_register r ≡ true = starts _ _ (dma_of 0 v t.sp) (dma_of 1 v t.sp) d e in
    subst (λ (x : Result State PassFault). IsOkAnd x (λ p. moved_as_described d p ≡ (step_of t).1)) (sym (passed rt r t running inst length))
    (subst (λ (x : State). moved_as_described d (left t x) ≡ x) (sym (stepped rt r t d is running inst e)) (copied (d.to_rdram == 1) (d.bank == 1) d (after_register_write r v t.sp) t))

at_move : (writes : Bool) (r value : ℕ) (t : State) (found : Option Dma) → (if writes then described r value t.sp else None) ≡ found → IsNext t r writes value → IsState t
    → ◌≡◌ {A = ℕ} (if is_some found then 6 else 5) 6 → IsStep (unwrap_or found no_dma) t
at_move true r value t (Some d) e next is six = dma_step next.op next.rt r t d next.direction is next.running next.inst (ap (λ x. described r x t.sp) next.read ∙ e)
at_move false r value t (Some d) e next is six = cc
at_move writes r value t None e next is six = absurd (omega (arith, six))

reported : (e : MoveEnd) (t : State) → ((k pc r : ℕ) (writes : Bool) (value : ℕ) → e ≡ end.Move k pc r writes value → IsNext t r writes value) → IsState t
    → (c_reached e t).at.stop.reason ≡ 6 → IsStep (c_reached e t).dma t
reported (end.Stop stop) t next is six = absurd (other_reason stop.reason (inr six))
reported (end.Move k pc r writes value) t next is six = at_move writes r value t (if writes then described r value t.sp else None) refl (next k pc r writes value refl) is six

pub events_are_steps : EventsAreSteps
events_are_steps n reads writes d = by (asks_status writes && is_status_write e)
  where
    moves : Moves
    moves = event_moves reads writes

    e : MoveEnd
    e = end_in n reads writes d

    before : Debugging
    before = before_event n reads writes d

    by : (b : Bool) → IsState (if b then after_run 1 before else before).state → (if b then c_after_status (end_steps e) before else c_reached e before.state).at.stop.reason ≡ 6
        → IsStep (if b then c_after_status (end_steps e) before else c_reached e before.state).dma (if b then after_run 1 before else before).state
    by true is six = absurd (other-status _ _ _ (inr six))
    by false is six = reported e before.state (λ k pc r w v h. next_at n moves d k pc r w v (event_move n (move_end_in n moves d) k pc r w v h)) is six

pub ruleset events = (events_are_steps)
