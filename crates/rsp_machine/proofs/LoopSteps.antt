-- Steps that are made one by one.
use Rattle.std.proofs.Common.{◌≡◌, ◌≢◌, inl, inr, ℕ, zero, suc, ◌+◌, ◌-◌, ◌<◌, ◌≤◌, Bool, true, false, List, [], ◌∷◌, length, set, get_or, refl, sym, ap, subst, ◌∙◌, arith, add-one, cond, Option, Some, None}
use Rattle.std.specs.Prelude.{if◌then◌else◌, not, ◌||◌, ◌&&◌, ◌⊎◌, slice_get}
use Rattle.std.proofs.lemmas.Bool.{cases_lt, not-true, not-false}
use Rattle.std.proofs.lemmas.List.{length-set, set-get_or, get_or-set_same}
use Rattle.std.proofs.lemmas.Option.{slice_get-get_or}
use Rattle.rsp_decode.specs.declared.inst.Inst.{Inst}
use Rattle.rsp_decode.specs.declared.inst.Inst.TheVariants.{MoveSp}
use Rattle.rsp_decode.specs.declared.scalar.MoveOp.{MoveOp}
use Rattle.rsp_decode.specs.Table.{inst_of}
use Rattle.rsp_memory.specs.Memory.{word_at}
use Rattle.rsp_regs.specs.Sp.{Sp}
use Rattle.rsp_machine.specs.State.{State}
use Rattle.rsp_machine.specs.ProgramCounters.{ProgramCounters, with_counters}
use Rattle.rsp_machine.specs.Step.{executed, after_single_step, step_by, step_of}
use Rattle.rsp_machine.specs.Laws.{steps_of, done_steps, done_of}
use Rattle.rsp_machine.specs.Undo.{after_instruction, after_step_from}
use Rattle.rsp_machine.specs.Transfers.{starts_dma_at}
use Rattle.rsp_machine.specs.Footprint.{footprint_of, makes_no_dma, reaches_sp}
use Rattle.rsp_machine.specs.LoopTests.{IsRanged, tests_of, tests_in, state_after}
use Rattle.rsp_machine.specs.Loop.{AreDone, IsInjective, HasRecorded, HaveRecorded, LoopEnd}
use Rattle.rsp_machine.specs.declared.footprint.Footprint.{Footprint}
use Rattle.rsp_machine.specs.declared.footprint.Footprint.TheVariants as of
use Rattle.rsp_machine.specs.declared.footprint.StepTests.{StepTests}
use Rattle.rsp_machine.specs.declared.step.StepEnd.{StepEnd}
use Rattle.rsp_machine.specs.declared.step.StepEnd.TheVariants.{Done, Halted, Reserved}
use Rattle.rsp_machine.specs.Until.{changes_memory_at, ends_after, refuses_by, refuses_at, permitted}
use Rattle.rsp_machine.proofs.CountersApart.{ranged-at}
use Rattle.rsp_machine.proofs.Undo.{neither, dma_of}
use Rattle.rsp_machine.proofs.OneStep.{leaves, halts-none, clear-after}

-- no step, and one more
made_none : (s : State) → AreDone 0 s s
unfolding steps_of done_of
made_none s = record { state = refl; done = refl }

made_more : (k : ℕ) (s t u : State) → AreDone k s t → step_of t ≡ (Done, u) → AreDone (k + 1) s u
unfolding steps_of done_of
made_more k s t u m e = rw add-one (record {
  state = sym (ap (λ x. x.1) e) ∙ ap (λ (x : State). (step_of x).1) m.state;
  done = omega (arith, m.done, ap (λ (x : State). done_steps (step_of x).0) m.state, ap (λ x. done_steps x.0) e);
})

-- steps after steps
pub steps-add : (m n : ℕ) (s : State) → steps_of (m + n) s ≡ steps_of n (steps_of m s)
unfolding steps_of
steps-add m zero s = ap (λ i. steps_of i s) (let e : m + 0 ≡ m = omega arith in e)
steps-add m (suc n) s =
    ap (λ i. steps_of i s) (let e : m + suc n ≡ suc (m + n) = omega arith in e)
    ∙ ap (λ (x : State). (step_of x).1) (steps-add m n s)

-- a step that isn't Done changes nothing: the machine is halted, or the word is reserved
not_done_by : (b : Bool) (o : Option Inst) (w : ℕ) (s : State) → done_steps (if b then (Halted, s) else step_by o w s).0 ≡ 0 → (if b then (Halted, s) else step_by o w s) ≡ (if b then Halted else Reserved w, s)
not_done_by true o w s e = refl
not_done_by false None w s e = refl
not_done_by false (Some i) w s e = absurd (omega (arith, e))

not_done : (s : State) → done_steps (step_of s).0 ≡ 0 → step_of s ≡ (if s.sp.halted then Halted else Reserved (word_at s.imem s.pc), s)
unfolding step_of
not_done s e = not_done_by s.sp.halted (inst_of (word_at s.imem s.pc)) (word_at s.imem s.pc) s e

-- all steps of n that are Done: k of them, where the next one isn't
all_made : (k n : ℕ) (s t : State) → AreDone k s t → k ≡ n → (t ≡ steps_of n s) × (k ≡ done_of n s)
all_made k n s t m e = rw (← e) (m.state, sym m.done)

pub ends-all : (k n : ℕ) (s t : State) → AreDone k s t → k ≤ n → (k < n → done_steps (step_of t).0 ≡ 0) → (t ≡ steps_of n s) × (k ≡ done_of n s)
unfolding steps_of done_of
ends-all k zero s t m h stuck = all_made k 0 s t m (omega (arith, h))
ends-all k (suc n) s t m h stuck = elim (cases_lt k (suc n)) [
  | inl less ↦
      let none = stuck less in
      let so = ends-all k n s t m (omega (arith, less)) (λ _. none) in
      (sym (ap (λ x. x.1) (not_done t none)) ∙ ap (λ (x : State). (step_of x).1) so.0, omega (arith, so.1, none, ap (λ (x : State). done_steps (step_of x).0) so.0))
  | inr all ↦ all_made k (suc n) s t m (omega (arith, h, all))
]

-- what holds of the first k numbers, and of k
pub upto : (P : ℕ → Type 0) (k j : ℕ) → ((i : ℕ) → i < k → P i) → P k → j < k + 1 → P j
upto P k j before here less = elim (cases_lt j k) [
  | inl earlier ↦ before j earlier
  | inr now ↦ subst P (let last : k ≡ j = omega (arith, now, less) in last) here
]

-- what execute has done of a word: its instruction, which no test refuses, leads to t
pub record IsExecuted (refuses : MoveOp → ℕ → Bool) (o : Option Inst) (s t : State) (e : StepTests) : Type 0 where
  pub inst : Inst
  pub is : o ≡ Some inst
  pub free : refuses_by refuses o ≡ false
  pub tests : e ≡ tests_of (footprint_of inst s)
  pub state : t ≡ executed inst s

some_is : {X : Type 0} (x y : X) → Some x ≡ Some y → x ≡ y
some_is x y e = cc

executed_as : (refuses : MoveOp → ℕ → Bool) (b : Bool) (o : Option Inst) (s t : State) (e : StepTests) → refuses_by refuses o ≡ b → Some e ≡ tests_in s (cond b None o) → t ≡ state_after s (cond b None o) → IsExecuted refuses o s t e
executed_as refuses true o s t e free answer state = cc
executed_as refuses false None s t e free answer state = cc
executed_as refuses false (Some i) s t e free answer state = record { inst = i; is = refl; free = free; tests = some_is _ _ answer; state = state }

-- or nothing: of a reserved word, or of a move that a test refuses
none_as : (refuses : MoveOp → ℕ → Bool) (b : Bool) (o : Option Inst) (s t : State) → refuses_by refuses o ≡ b → None ≡ tests_in s (cond b None o) → t ≡ state_after s (cond b None o) → (t ≡ s) × ((o ≡ None) ⊎ (refuses_by refuses o ≡ true))
none_as refuses true o s t refused answer state = (state, inr refused)
none_as refuses false None s t refused answer state = (state, inl refl)
none_as refuses false (Some i) s t refused answer state = cc

pub executed-none : (refuses : MoveOp → ℕ → Bool) (w : ℕ) (s t : State) → s.sp.halted ≡ false → w ≡ word_at s.imem s.pc → None ≡ tests_in s (permitted refuses (inst_of w)) → t ≡ state_after s (permitted refuses (inst_of w))
    → (t ≡ s) × ((done_steps (step_of s).0 ≡ 0) ⊎ (refuses_at refuses s ≡ true))
unfolding step_of refuses_at
executed-none refuses w s t goes word answer state =
    let none = none_as refuses (refuses_by refuses (inst_of w)) (inst_of w) s t refl answer state in
    (none.0, rw (← word) (elim none.1 [ inl reserved ↦ inl (rw (goes, reserved) refl) | inr refused ↦ inr refused ]))

unhalted : {X : Type 0} (b : Bool) (x y : X) → b ≡ false → (if b then x else y) ≡ y
unhalted b x y e = rw e refl

-- a turn of the loop: from s to t by an instruction, to u by its end, and to x of a recorder
pub record IsTurn {K : Type 0} (saves : Footprint → State → K → K) (refuses : MoveOp → ℕ → Bool) (s t u : State) (e : StepTests) (single : Bool) (before x : K) : Type 0 where
  pub goes : s.sp.halted ≡ false
  pub executed : IsExecuted refuses (inst_of (word_at s.imem s.pc)) s t e
  pub clear : single ≡ false → s.sp.single_step ≡ false
  pub ended : u ≡ (if e.sp || single then after_single_step t else t)
  pub told : x ≡ after_step_from saves s before
  pub ranged : IsRanged s

ended_at : (b : Bool) (p : ProgramCounters) (s t : State) → s ≡ (if b then after_single_step t else t) → with_counters p s ≡ (if b then after_single_step (with_counters p t) else with_counters p t)
ended_at true p s t e = ap (with_counters p) e
ended_at false p s t e = ap (with_counters p) e

pub turn-of : {K : Type 0} (saves : Footprint → State → K → K) (refuses : MoveOp → ℕ → Bool) (w : ℕ) (p q : ProgramCounters) (l v m : State) (r : Option StepTests) (e : StepTests) (single : Bool) (before x : K)
    → l.sp.halted ≡ false → w ≡ word_at l.imem p.pc → r ≡ tests_in (with_counters p l) (permitted refuses (inst_of w)) → with_counters q v ≡ state_after (with_counters p l) (permitted refuses (inst_of w)) → r ≡ Some e
    → (single ≡ false → l.sp.single_step ≡ false) → m ≡ (if e.sp || single then after_single_step v else v) → x ≡ after_instruction saves (permitted refuses (inst_of w)) (with_counters p l) before → IsRanged l
    → IsTurn saves refuses (with_counters p l) (with_counters q v) (with_counters q m) e single before x
unfolding after_step_from
turn-of saves refuses w p q l v m r e single before x goes word answer state some clear ended told ranged =
    let done = executed_as refuses (refuses_by refuses (inst_of w)) (inst_of w) (with_counters p l) (with_counters q v) e refl (sym some ∙ answer) state in
    record {
      goes = goes;
      executed = rw (← word) done;
      clear = clear;
      ended = ended_at (e.sp || single) q m v ended;
      told = told ∙ ap (λ b. after_instruction saves (cond b None (inst_of w)) (with_counters p l) before) done.free ∙ ap (λ i. after_instruction saves (inst_of i) (with_counters p l) before) word ∙ sym (unhalted l.sp.halted before _ goes);
      ranged = ranged-at p l ranged;
    }

ended_by : (b : Bool) (t u : State) → u ≡ (if b then after_single_step t else t) → (b ≡ false → t ≡ after_single_step t) → after_single_step t ≡ u
ended_by true t u e same = sym e
ended_by false t u e same = sym (same refl) ∙ sym e

-- whether the loop goes on after it, by whether the machine is halted then, and whether a DMA ends the loop
pub goes-by : (b halted goes r : Bool) → r ≡ (not b || not halted && goes) → r ≡ true → (b ≡ false) ⊎ ((halted ≡ false) × (goes ≡ true))
goes-by true true goes r e t = cc
goes-by true false goes r e t = inr (refl, sym e ∙ t)
goes-by false halted goes r e t = inl refl

pub stops-by : (b halted goes r : Bool) → r ≡ (not b || not halted && goes) → r ≡ false → (halted ≡ true) ⊎ (goes ≡ false)
stops-by true true goes r e f = inl refl
stops-by true false goes r e f = inr (sym e ∙ f)
stops-by false halted goes r e f = cc

-- whether it starts a DMA
not_back : (b d : Bool) → b ≡ not d → not b ≡ d
not_back b true e = ap not e
not_back b false e = ap not e

no_dma : (f : Footprint) → reaches_sp f ≡ false → not (makes_no_dma f) ≡ false
no_dma of.Dma h = cc
no_dma _ h = refl

module _ {K : Type 0} {saves : Footprint → State → K → K} {refuses : MoveOp → ℕ → Bool} {s t u : State} {e : StepTests} {single : Bool} {before x : K} (h : IsTurn saves refuses s t u e single before x) where
  turn_permitted : refuses_at refuses s ≡ false
  unfolding refuses_at
  turn_permitted = h.executed.free

  -- an instruction that doesn't reach the SP registers leaves them, and single step halts nothing where it is clear
  stays : (e.sp || single) ≡ false → t.sp ≡ s.sp
  stays none = ap (λ (y : State). y.sp) h.executed.state ∙ leaves h.executed.inst s (ap (λ (y : StepTests). y.sp) (sym h.executed.tests) ∙ (neither e.sp single none).0)

  turn_free : (e.sp || single) ≡ false → t ≡ after_single_step t
  turn_free none =
      let same = stays none in
      ap (λ p. record t { sp = p }) (sym (halts-none t.sp (ap (λ (p : Sp). p.halted) same ∙ h.goes) (ap (λ (p : Sp). p.single_step) same ∙ h.clear (neither e.sp single none).1)))

  turn_ended : after_single_step t ≡ u
  turn_ended = ended_by (e.sp || single) t u h.ended turn_free

  turn_done : step_of s ≡ (Done, u)
  unfolding step_of
  turn_done = unhalted s.sp.halted (Halted, s) _ h.goes ∙ rw h.executed.is (ap (λ (y : State). (Done, y)) (ap after_single_step (sym h.executed.state) ∙ turn_ended))

  pub turn-running : ((e.sp || single) ≡ false) ⊎ (u.sp.halted ≡ false) → u.sp.halted ≡ false
  turn-running (inl none) = ap (λ (y : State). y.sp.halted) (sym turn_ended ∙ sym (turn_free none)) ∙ ap (λ (p : Sp). p.halted) (stays none) ∙ h.goes
  turn-running (inr running) = running

  pub turn-clear : u.sp.halted ≡ false → u.sp.single_step ≡ false
  turn-clear running = clear-after t u (sym turn_ended) running

  turn_dma : e.dma ≡ starts_dma_at s
  unfolding starts_dma_at
  turn_dma = rw (h.executed.tests, h.executed.is) (not_back _ _ (dma_of h.executed.inst s))

  -- if DMAs end the loop, it goes on only after a step that starts none
  pub turn-goes : (at_dma : Bool) → ((e.sp || single) ≡ false) ⊎ ((u.sp.halted ≡ false) × (not (at_dma && e.dma) ≡ true)) → at_dma ≡ true → starts_dma_at s ≡ false
  turn-goes true (inl none) at =
      sym turn_dma ∙ ap (λ (y : StepTests). y.dma) h.executed.tests ∙ no_dma (footprint_of h.executed.inst s) (ap (λ (y : StepTests). y.sp) (sym h.executed.tests) ∙ (neither e.sp single none).0)
  turn-goes true (inr on) at = sym turn_dma ∙ not-true e.dma on.1
  turn-goes false goes at = cc

  pub turn-stops : (at_dma : Bool) → not (at_dma && e.dma) ≡ false → (at_dma ≡ true) × (starts_dma_at s ≡ true)
  turn-stops true stops = (refl, sym turn_dma ∙ not-false e.dma stops)
  turn-stops false stops = cc

  pub turn-ends : (ends : ℕ → ℕ → Bool → Bool) (pc v : ℕ) → pc ≡ u.pc → v ≡ word_at u.imem u.pc → ends_after ends s ≡ ends pc v e.changes_memory
  unfolding ends_after changes_memory_at
  turn-ends ends pc v at is = rw (turn_done, h.executed.is, at, is, h.executed.tests) refl

-- one step, by how many were made
pub done_few : (e : StepEnd) → done_steps e ≤ 1
done_few Done = omega arith
done_few Halted = omega arith
done_few (Reserved w) = omega arith

pub is_done : (e : StepEnd) → done_steps e ≡ 1 → Done ≡ e
is_done Done d = refl
is_done Halted d = absurd (omega (arith, d))
is_done (Reserved w) d = absurd (omega (arith, d))

pub one-done : (k : ℕ) (s : State) → k ≡ done_of 1 s → k ≡ 1 → Done ≡ (step_of s).0
unfolding steps_of done_of
one-done k s d e = is_done (step_of s).0 (omega (arith, d, e))

pub one-none : (k : ℕ) (s : State) → k ≡ done_of 1 s → k ≢ 1 → done_steps (step_of s).0 ≡ 0
unfolding steps_of done_of
one-none k s d other = omega (arith, d, other, done_few (step_of s).0)

pub one-halted : (s t : State) → t ≡ (step_of s).1 → done_steps (step_of s).0 ≡ 0 → t.sp.halted ≡ true → Halted ≡ (step_of s).0
one-halted s t e none h =
    let end = not_done s none in
    let same : t ≡ s = e ∙ ap (λ x. x.1) end in
    rw (end, ← same, h) refl

pub one-reserved : (w : ℕ) (s t : State) → t ≡ (step_of s).1 → done_steps (step_of s).0 ≡ 0 → t.sp.halted ≡ false → w ≡ word_at t.imem t.pc → Reserved w ≡ (step_of s).0
one-reserved w s t e none h is =
    let end = not_done s none in
    let same : t ≡ s = e ∙ ap (λ x. x.1) end in
    rw (end, ← same, h, is) refl

-- steps that no DMA ends
pub ends-freely : (k : ℕ) (s t : State) (ends : ℕ → ℕ → Bool → Bool) (refuses : MoveOp → ℕ → Bool) → LoopEnd false ends refuses k s t
    → (done_steps (step_of t).0 ≡ 0) ⊎ (refuses_at refuses t ≡ true) ⊎ ((0 < k) × (ends_after ends (steps_of (k - 1) s) ≡ true))
ends-freely k s t ends refuses (inl stuck) = inl stuck
ends-freely k s t ends refuses (inr (inl refused)) = inr (inl refused)
ends-freely k s t ends refuses (inr (inr (some, inl last))) = absurd (let never : false ≡ true = last.0 in cc)
ends-freely k s t ends refuses (inr (inr (some, inr ended))) = inr (inr (some, ended))

-- and that no test ends
never_by : (o : Option Inst) → refuses_by (λ op register. false) o ≡ false
never_by None = refl
never_by (Some (MoveSp op rt register)) = refl
never_by (Some _) = refl

pub never-refuses : (s : State) (X : Type 0) → refuses_at (λ op register. false) s ≡ true → X
unfolding refuses_at
never-refuses s X h = let no : false ≡ true = sym (never_by (inst_of (word_at s.imem s.pc))) ∙ h in cc

pub ends-stuck : (k : ℕ) (s t : State) → LoopEnd false (λ pc word changes_memory. false) (λ op register. false) k s t → done_steps (step_of t).0 ≡ 0
unfolding ends_after
ends-stuck k s t (inl stuck) = stuck
ends-stuck k s t (inr (inl refused)) = never-refuses t _ refused
ends-stuck k s t (inr (inr (some, inl last))) = absurd (let never : false ≡ true = last.0 in cc)
ends-stuck k s t (inr (inr (some, inr ended))) = cc

-- what is in an entry that is written, and in the others
slice_get-set_same : {X : Type 0} (xs : List X) (i : ℕ) (x : X) → i < length xs → slice_get (set xs i x) i ≡ Some x
slice_get-set_same xs i x h = slice_get-get_or (set xs i x) i x (omega (arith, length-set xs i x, h)) ∙ ap Some (get_or-set_same xs i x x h)

slice_get-set_other : {X : Type 0} (xs : List X) (i j : ℕ) (x : X) → i ≢ j → slice_get (set xs j x) i ≡ slice_get xs i
slice_get-set_other [] i j x h = refl
slice_get-set_other (y ∷ ys) zero zero x h = absurd (h refl)
slice_get-set_other (y ∷ ys) (suc i) zero x h = refl
slice_get-set_other (y ∷ ys) zero (suc j) x h = refl
slice_get-set_other (y ∷ ys) (suc i) (suc j) x h = slice_get-set_other ys i j x (λ e. h (ap suc e))

-- what is recorded of a reserved word or a refused move: nothing
told_nothing : {K : Type 0} (saves : Footprint → State → K → K) (o : Option Inst) (s : State) (k : K) → None ≡ tests_in s o → after_instruction saves o s k ≡ k
told_nothing saves None s k h = refl
told_nothing saves (Some i) s k h = cc

pub told-nothing : {K : Type 0} (saves : Footprint → State → K → K) (o : Option Inst) (s : State) (xs : List K) (j : ℕ) (d x : K) → None ≡ tests_in s o → x ≡ after_instruction saves o s (get_or xs j d) → set xs j x ≡ xs
told-nothing saves o s xs j d x none e = ap (set xs j) (e ∙ told_nothing saves o s (get_or xs j d) none) ∙ set-get_or xs j d

-- what a loop has done in k steps, of which a test refuses none
pub record HasRun {K : Type 0} (saves : Footprint → State → K → K) (slot : ℕ → ℕ) (refuses : MoveOp → ℕ → Bool) (k : ℕ) (s t : State) (old new : List K) : Type 0 where
  pub made : AreDone k s t
  pub told : HaveRecorded saves slot k s old new
  pub permitted : (i : ℕ) → i < k → refuses_at refuses (steps_of i s) ≡ false

module _ {K : Type 0} (saves : Footprint → State → K → K) (slot : ℕ → ℕ) (refuses : MoveOp → ℕ → Bool) where
  pub run-none : (s : State) (old : List K) → HasRun saves slot refuses 0 s s old old
  run-none s old = record {
    made = made_none s;
    told = record { told = λ each i h. absurd (omega (arith, h)); rest = λ j h. refl; len = refl };
    permitted = λ i h. absurd (omega (arith, h));
  }

  kept : (k j : ℕ) (xs : List K) (x : K) → IsInjective slot → j ≡ slot k → (i : ℕ) → i < k → slice_get (set xs j x) (slot i) ≡ slice_get xs (slot i)
  kept k j xs x each at i l = slice_get-set_other xs (slot i) j x (λ e. let same : i ≡ k = each i k (e ∙ at) in absurd (omega (arith, l, same)))

  -- one turn more, which was told in the next slot
  pub run-more : (k j : ℕ) (o s t u : State) (e : StepTests) (single : Bool) (old new : List K) (before x : K) → HasRun saves slot refuses k o s old new → IsTurn saves refuses s t u e single before x → j ≡ slot k → j < length new
      → HasRun saves slot refuses (k + 1) o u old (set new j x)
  run-more k j o s t u e single old new before x a turn at inside =
      let there = a.made.state in
      let here : HasRecorded saves (steps_of k o) (slice_get (set new j x) (slot k)) = rw (← there) (record {
        before = before;
        told = ap (slice_get (set new j x)) (sym at) ∙ slice_get-set_same new j x inside ∙ ap Some turn.told;
        ranged = turn.ranged;
      }) in
      record {
        made = made_more k o s u a.made (turn_done turn);
        told = record {
          told = λ each i h. upto (λ n. HasRecorded saves (steps_of n o) (slice_get (set new j x) (slot n))) k i (λ n l. rw (kept k j new x each at n l) (a.told.told each n l)) here h;
          rest = λ i other. slice_get-set_other new i j x (λ f. other k (omega arith) (sym at ∙ sym f)) ∙ a.told.rest i (λ m l. other m (omega (arith, l)));
          len = length-set new j x ∙ a.told.len;
        };
        permitted = λ i h. upto (λ n. refuses_at refuses (steps_of n o) ≡ false) k i a.permitted (rw (← there) (turn_permitted turn)) h;
      }
