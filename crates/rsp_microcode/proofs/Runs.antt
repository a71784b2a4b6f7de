-- Steps over straight microcode.
use Rattle.std.proofs.Common.{◌≡◌, ℕ, zero, suc, ◌+◌, List, [], ◌∷◌, length, map, ◌++◌, ◌<◌, ◌*◌, subst, refl, ap, sym, ◌∙◌, arith, Bool, true, false, Option, Some, ◌||◌}
use Rattle.std.specs.Prelude.{if◌then◌else◌}
use Rattle.std.proofs.lemmas.Bool.{and_parts}
use Rattle.rsp_decode.specs.declared.inst.Inst.{Inst}
use Rattle.rsp_decode.specs.declared.inst.Inst.TheVariants.{Break, MoveSp, MoveVector, MoveControl, JumpRegister, JumpLinkRegister, BranchSign, BranchEqual, Jump}
use Rattle.rsp_decode.specs.declared.scalar.MoveOp.TheVariants.{From, To}
use Rattle.rsp_decode.specs.Table.{inst_of}
use Rattle.rsp_memory.specs.Memory.{word_at}
use Rattle.rsp_scalar.specs.Flow.{address_after}
use Rattle.rsp_regs.specs.Sp.{Sp, after_step}
use Rattle.rsp_machine.specs.State.{State}
use Rattle.rsp_machine.specs.Vector.{multiplies, rounds, multiplies_mpeg, reads_accumulator, ruled, divides, loads_vector, stores_vector, moves_vector, moves_control}
use Rattle.rsp_machine.specs.Step.{step_of, step_by, after_single_step, executed, instruction_effect, computes, loads_scalar, stores_scalar, jumps, moves_sp}
use Rattle.rsp_machine.specs.Laws.{steps_of}
use Rattle.rsp_machine.specs.declared.step.StepEnd.{StepEnd}
use Rattle.rsp_machine.specs.declared.step.StepEnd.TheVariants.{Done, Halted}
use Rattle.rsp_microcode.proofs.SpReads.{reads_leave}
use Rattle.rsp_microcode.specs.Runs.{goes_on, branches, all_go_on, Stand, IsAt, ran_through, StepsOver, StraightRuns, BranchRuns}

-- what an instruction that goes on leaves
pub record Goes (s t : State) : Type 0 where
  pub pc : t.pc ≡ s.npc
  pub npc : t.npc ≡ address_after s.npc
  pub imem : t.imem ≡ s.imem
  pub sp : t.sp ≡ s.sp

pub gone : (i : Inst) (s : State) → goes_on i ≡ true → Goes s (executed i s)
unfolding executed instruction_effect computes loads_scalar stores_scalar moves_sp multiplies rounds multiplies_mpeg reads_accumulator ruled divides loads_vector stores_vector moves_vector moves_control
gone (JumpRegister rs) s h = cc
gone (JumpLinkRegister rd rs) s h = cc
gone Break s h = cc
gone (BranchSign op rs offset) s h = cc
gone (BranchEqual op rs rt offset) s h = cc
gone (Jump op target) s h = cc
gone (MoveSp From rt n) s h = record { pc = refl; npc = refl; imem = refl; sp = reads_leave n s.sp h }
gone (MoveSp To rt n) s h = cc
gone (MoveVector From rt n element) s h = record { pc = refl; npc = refl; imem = refl; sp = refl }
gone (MoveVector To rt n element) s h = record { pc = refl; npc = refl; imem = refl; sp = refl }
gone (MoveControl From rt control) s h = record { pc = refl; npc = refl; imem = refl; sp = refl }
gone (MoveControl To rt control) s h = record { pc = refl; npc = refl; imem = refl; sp = refl }
gone _ s h = record { pc = refl; npc = refl; imem = refl; sp = refl }

or_false : (a b : Bool) → b ≡ false → (a || b) ≡ a
or_false true b h = refl
or_false false b h = h

unsingled : (s : State) → s.sp.single_step ≡ false → after_single_step s ≡ s
unfolding after_step
unsingled s n = ap (λ (b : Bool). let p = s.sp in let q : Sp = record p { halted = b } in let t : State = record s { sp = q } in t) (or_false s.sp.halted s.sp.single_step n)

step_fetched : (b : Bool) (o : Option Inst) (i : Inst) (word : ℕ) (s : State) → b ≡ false → o ≡ Some i
    → (if b then (Halted, s) else step_by o word s) ≡ (Done, after_single_step (executed i s))
step_fetched b o i word s p q = rw (p, q) refl

-- a step over a word that means an instruction
pub over : StepsOver
unfolding step_of
over i s h m n =
    step_fetched s.sp.halted (inst_of (word_at s.imem s.pc)) i (word_at s.imem s.pc) s h m
    ∙ ap (λ (x : State). let y : StepEnd × State = (Done, x) in y) (unsingled (executed i s) n)

pub steps-plus : (a b : ℕ) (s : State) → steps_of (a + b) s ≡ steps_of a (steps_of b s)
unfolding steps_of
steps-plus zero b s = ap (λ n. steps_of n s) (omega arith)
steps-plus (suc a) b s = let e : suc a + b ≡ suc (a + b) = omega arith in ap (λ n. steps_of n s) e ∙ ap (λ (x : State). (step_of x).1) (steps-plus a b s)

-- and over one that goes on
pub step_is : (i : Inst) (s : State) → s.sp.halted ≡ false → s.sp.single_step ≡ false → inst_of (word_at s.imem s.pc) ≡ Some i → goes_on i ≡ true → step_of s ≡ (Done, executed i s)
step_is i s h n m g = over i s h m (ap (λ (p : Sp). p.single_step) (gone i s g).sp ∙ n)

pub steps-first : (n : ℕ) (s : State) → steps_of (suc n) s ≡ steps_of n (step_of s).1
unfolding steps_of
steps-first zero s = refl
steps-first (suc n) s = ap (λ (x : State). (step_of x).1) (steps-first n s)

pub still : (ws : List ℕ) (a b : ℕ) (m n : List ℕ) → a ≡ b → m ≡ n → Stand ws a m → Stand ws b n
still ws a b m n p q h = rw (← p, ← q) h

-- the words after an instruction that goes on are at pc after it
behind : (i : Inst) (s : State) (w : ℕ) (ws : List ℕ) → Goes s (executed i s) → IsAt (w ∷ ws) s → IsAt ws (executed i s)
behind i s w ws kept at = record {
  goes = ap (λ (p : Sp). p.halted) kept.sp ∙ at.goes;
  runs = ap (λ (p : Sp). p.single_step) kept.sp ∙ at.runs;
  next = kept.npc ∙ ap address_after (sym kept.pc);
  stand = still ws _ _ _ _ (sym at.next ∙ sym kept.pc) (sym kept.imem) at.stand.1;
}

-- the first of some steps, over an instruction that goes on
first_step : (n : ℕ) (i : Inst) (s : State) (w : ℕ) (ws : List ℕ) → inst_of w ≡ Some i → goes_on i ≡ true → IsAt (w ∷ ws) s → steps_of (suc n) s ≡ steps_of n (executed i s)
first_step n i s w ws e g at =
    steps-first n s ∙ ap (λ (x : StepEnd × State). steps_of n x.1) (step_is i s at.goes at.runs (ap inst_of at.stand.0 ∙ e) g)

pub straight : StraightRuns
unfolding steps_of
straight [] [] s e g at = refl
straight [] (i ∷ is) s e g at = cc
straight (w ∷ ws) [] s e g at = cc
straight (w ∷ ws) (i ∷ is) s e g at =
    let parts = and_parts (goes_on i) (all_go_on is) g in
    let first : inst_of w ≡ Some i = cc in
    let more : map inst_of ws ≡ map Some is = cc in
    first_step (length ws) i s w ws first parts.0 at ∙ straight ws is (executed i s) more parts.1 (behind i s w ws (gone i s parts.0) at)

-- what a branch or a jump leaves
record Turns (s t : State) : Type 0 where
  pc : t.pc ≡ s.npc
  imem : t.imem ≡ s.imem
  sp : t.sp ≡ s.sp

turned : (i : Inst) (s : State) → branches i ≡ true → Turns s (executed i s)
unfolding executed instruction_effect jumps
turned (JumpRegister rs) s h = record { pc = refl; imem = refl; sp = refl }
turned (JumpLinkRegister rd rs) s h = record { pc = refl; imem = refl; sp = refl }
turned (BranchSign op rs offset) s h = record { pc = refl; imem = refl; sp = refl }
turned (BranchEqual op rs rt offset) s h = record { pc = refl; imem = refl; sp = refl }
turned (Jump op target) s h = record { pc = refl; imem = refl; sp = refl }
turned _ s h = cc

branch_and_slot : (w v : ℕ) (b d : Inst) (s : State) → inst_of w ≡ Some b → inst_of v ≡ Some d → branches b ≡ true → goes_on d ≡ true → IsAt (w ∷ v ∷ []) s
    → steps_of 2 s ≡ executed d (executed b s)
unfolding steps_of
branch_and_slot w v b d s e f h k at =
    let kept = turned b s h in
    let t = executed b s in
    let runs : t.sp.single_step ≡ false = ap (λ (p : Sp). p.single_step) kept.sp ∙ at.runs in
    let goes : t.sp.halted ≡ false = ap (λ (p : Sp). p.halted) kept.sp ∙ at.goes in
    let slot = still (v ∷ []) _ _ _ _ (sym at.next ∙ sym kept.pc) (sym kept.imem) at.stand.1 in
    ap (λ (x : StepEnd × State). (step_of x.1).1) (over b s at.goes (ap inst_of at.stand.0 ∙ e) runs)
    ∙ ap (λ (x : StepEnd × State). x.1) (step_is d t goes runs (ap inst_of slot.0 ∙ f) k)

pub with_branch : BranchRuns
with_branch (w ∷ v ∷ []) [] b d s e g h k at = let e1 : inst_of w ≡ Some b = cc in let e2 : inst_of v ≡ Some d = cc in branch_and_slot w v b d s e1 e2 h k at
with_branch [] [] b d s e g h k at = cc
with_branch (w ∷ []) [] b d s e g h k at = cc
with_branch (w ∷ v ∷ u ∷ ws) [] b d s e g h k at = cc
with_branch [] (i ∷ is) b d s e g h k at = cc
with_branch (w ∷ ws) (i ∷ is) b d s e g h k at =
    let parts = and_parts (goes_on i) (all_go_on is) g in
    let first : inst_of w ≡ Some i = cc in
    let more : map inst_of ws ≡ map Some (is ++ b ∷ d ∷ []) = cc in
    first_step (length ws) i s w ws first parts.0 at ∙ with_branch ws is b d (executed i s) more parts.1 h k (behind i s w ws (gone i s parts.0) at)

-- what holds before the first round, and is handed on by each, holds after them
pub rounds_kept : (size n : ℕ) (Holds : ℕ → State → Type 0) (s : State) → Holds 0 s → ((k : ℕ) (t : State) → k < n → Holds k t → Holds (k + 1) (steps_of size t)) → Holds n (steps_of (n * size) s)
unfolding steps_of
rounds_kept size zero Holds s base more = let e : 0 ≡ 0 * size = omega arith in subst (λ n. Holds 0 (steps_of n s)) e base
rounds_kept size (suc k) Holds s base more =
    let count : suc k * size ≡ size + k * size = omega arith in
    let all : steps_of (suc k * size) s ≡ steps_of size (steps_of (k * size) s) = ap (λ n. steps_of n s) count ∙ steps-plus size (k * size) s in
    let e : k + 1 ≡ suc k = omega arith in
    let last : Holds (k + 1) (steps_of size (steps_of (k * size) s)) = more k _ (omega arith) (rounds_kept size k Holds s base (λ j t h. more j t (omega arith))) in
    subst (λ n. Holds n (steps_of (suc k * size) s)) e (subst (Holds (k + 1)) (sym all) last)

-- runs, one behind the other
pub ran_on : (a b : List Inst) (s : State) → ran_through (a ++ b) s ≡ ran_through b (ran_through a s)
ran_on [] b s = refl
ran_on (i ∷ is) b s = ran_on is b (executed i s)
