-- Passing over a move of an SP register, beside a step that executes it.
use Rattle.std.proofs.Common.{◌≡◌, ◌≢◌, ℕ, ◌⊎◌, inl, inr, ◌%◌, ◌==◌, ◌||◌, Bool, true, false, List, refl, sym, ap, subst, ◌∙◌, Option, Some, None}
use Rattle.std.specs.Prelude.{if◌then◌else◌, Result, Ok, Err, slice_index, slice_set}
use Rattle.std.proofs.lemmas.Bool.{eqb-true}
use Rattle.std.proofs.lemmas.List.{set-set, set-get_or}
use Rattle.rsp_decode.specs.declared.inst.Inst.{Inst}
use Rattle.rsp_decode.specs.declared.inst.Inst.TheVariants.{MoveSp}
use Rattle.rsp_decode.specs.declared.scalar.MoveOp.{MoveOp}
use Rattle.rsp_decode.specs.declared.scalar.MoveOp.TheVariants.{From, To}
use Rattle.rsp_decode.specs.Table.{inst_of}
use Rattle.rsp_memory.specs.Memory.{word_at}
use Rattle.rsp_scalar.specs.Registers.{register}
use Rattle.rsp_regs.specs.Sp.{Sp, after_step, read_value, after_register_write, after_dma, transfer, is_length_register}
use Rattle.rsp_machine.specs.State.{State, advanced}
use Rattle.rsp_machine.specs.Host.{moved_in, moved_out}
use Rattle.rsp_machine.specs.Step.{executed, instruction_effect, moves_sp, after_single_step, step_by, step_of}
use Rattle.rsp_machine.specs.Footprint.{footprint_of, scalar_in}
use Rattle.rsp_machine.specs.Footprints.{footprint_in, footprint_at, PassesAreSteps}
use Rattle.rsp_machine.specs.Transfers.{starts_dma_in, starts_dma_at}
use Rattle.rsp_machine.specs.Pass.{after_pass, pass_by, pass_of, pass_dma_of}
use Rattle.rsp_machine.specs.declared.step.StepEnd.{StepEnd}
use Rattle.rsp_machine.specs.declared.step.StepEnd.TheVariants.{Done, Halted}
use Rattle.rsp_machine.specs.declared.pass.PassFault.{PassFault}
use Rattle.rsp_machine.specs.declared.pass.PassFault.TheVariants as fault
use Rattle.rsp_machine.proofs.Footprints.{other_register}

ok_is : (x y : State) → ◌≡◌ {A = Result State PassFault} (Ok x) (Ok y) → x ≡ y
ok_is x y e = cc

-- the parts of a step that a write of an SP register makes
written : (a b : Bool) (v : ℕ) (q : Sp) (s : State)
    → let t = after_single_step (record (if a then moved_in v (advanced s) else if b then moved_out v (advanced s) else advanced s) { sp = q }) in
    (s.registers ≡ t.registers) × (record (after_single_step (advanced s)) { registers = t.registers } ≡ record t { dmem = s.dmem; imem = s.imem; rdram = s.rdram; sp = after_step s.sp })
written true b v q s = (refl, refl)
written false true v q s = (refl, refl)
written false false v q s = (refl, refl)

-- a register with the value that it has
same_value : (b : Bool) (r : List ℕ) (n v w : ℕ) → v ≡ slice_index (if b then r else slice_set r n w) n → (if b then r else slice_set r n v) ≡ (if b then r else slice_set r n w)
same_value true r n v w e = refl
same_value false r n v w e = ap (slice_set r n) e ∙ sym (set-set r n w (slice_index (slice_set r n w) n)) ∙ set-get_or (slice_set r n w) n 0

-- a pass over a move, beside the step
record Passed (i : Inst) (value : ℕ) (s p t : State) : Type 0 where
  same : value ≡ register t.registers (scalar_in (footprint_of i s)) → p.registers ≡ t.registers
  registers : (n : ℕ) → n ≢ scalar_in (footprint_of i s) → register p.registers n ≡ register t.registers n
  rest : record p { registers = t.registers } ≡ record t { dmem = s.dmem; imem = s.imem; rdram = s.rdram; sp = after_step s.sp }

passed : (op : MoveOp) (rt n value : ℕ) (s : State) → Passed (MoveSp op rt n) value s (after_pass op rt value s) (after_single_step (executed (MoveSp op rt n) s))
unfolding footprint_of executed instruction_effect moves_sp
passed From rt n value s = record {
  same = same_value (rt == 0) s.registers rt value (read_value n s.sp);
  registers = λ k h. other_register s.registers rt k value h ∙ sym (other_register s.registers rt k (read_value n s.sp) h);
  rest = refl;
}
passed To rt n value s =
    let v = register s.registers rt in
    let w = written (n % 16 == 2) (n % 16 == 3) v (after_register_write n v s.sp) s in
    record { same = λ e. w.0; registers = λ k h. ap (λ r. register r k) w.0; rest = w.1 }

-- the same by whether the machine is halted, and by the instruction at pc
record PassedBy (o : Option Inst) (value : ℕ) (s p : State) (x : StepEnd × State) : Type 0 where
  done : x.0 ≡ Done
  same : value ≡ register x.1.registers (scalar_in (footprint_in o s)) → p.registers ≡ x.1.registers
  registers : (n : ℕ) → n ≢ scalar_in (footprint_in o s) → register p.registers n ≡ register x.1.registers n
  rest : record p { registers = x.1.registers } ≡ record x.1 { dmem = s.dmem; imem = s.imem; rdram = s.rdram; sp = after_step s.sp }

passed_by : (b : Bool) (o : Option Inst) (word value : ℕ) (s p : State) → (if b then Err fault.Halted else pass_by o value s) ≡ Ok p
    → PassedBy o value s p (if b then (Halted, s) else step_by o word s)
passed_by true o word value s p e = cc
passed_by false None word value s p e = cc
passed_by false (Some (MoveSp op rt n)) word value s p e =
    let t = after_single_step (executed (MoveSp op rt n) s) in
    let w = subst (λ (x : State). Passed (MoveSp op rt n) value s x t) (ok_is (after_pass op rt value s) p e) (passed op rt n value s) in
    record { done = refl; same = w.same; registers = w.registers; rest = w.rest }
passed_by false (Some _) word value s p e = cc

pub passes_are_steps : PassesAreSteps
unfolding pass_of step_of footprint_at
passes_are_steps value s p e =
    let w = passed_by s.sp.halted (inst_of (word_at s.imem s.pc)) (word_at s.imem s.pc) value s p e in
    record { done = w.done; same = w.same; registers = w.registers; rest = w.rest }

pub ruleset passing = (passes_are_steps)

-- ---- a DMA

-- a write of a length register
two_or_three : (k : ℕ) (b c : Bool) → (k == 2) ≡ b → (k == 3) ≡ c → (b || c) ≡ true → (k ≡ 2) ⊎ (k ≡ 3)
two_or_three k true c e f h = inl (eqb-true k 2 e)
two_or_three k false true e f h = inr (eqb-true k 3 f)
two_or_three k false false e f h = cc

length_case : (k : ℕ) (x y z w : Sp) → (k ≡ 2) ⊎ (k ≡ 3) → (if k == 0 then x else if k == 1 then y else if k == 2 || k == 3 then z else w) ≡ z
length_case k x y z w (inl e) = subst (λ j. (if j == 0 then x else if j == 1 then y else if j == 2 || j == 3 then z else w) ≡ z) (sym e) refl
length_case k x y z w (inr e) = subst (λ j. (if j == 0 then x else if j == 1 then y else if j == 2 || j == 3 then z else w) ≡ z) (sym e) refl

length_write : (n v : ℕ) (q : Sp) → is_length_register n ≡ true → after_register_write n v q ≡ after_dma (transfer v q) q
unfolding after_register_write
length_write n v q e = length_case (n % 16) _ _ (after_dma (transfer v q) q) _ (two_or_three (n % 16) (n % 16 == 2) (n % 16 == 3) refl refl e)

-- the state after a pass over the DMA of a word
abbrev pub after_dma_pass : ℕ → State → State
after_dma_pass v s = record (advanced s) { sp = after_step (after_dma (transfer v s.sp) s.sp) }

-- a step that does a DMA, with the memories as they were
bytes_left : (a b : Bool) (v : ℕ) (q : Sp) (s : State)
    → let t = after_single_step (record (if a then moved_in v (advanced s) else if b then moved_out v (advanced s) else advanced s) { sp = q }) in
    record t { dmem = s.dmem; imem = s.imem; rdram = s.rdram } ≡ record (advanced s) { sp = after_step q }
bytes_left true b v q s = refl
bytes_left false true v q s = refl
bytes_left false false v q s = refl

dma_step : (rt n : ℕ) (s : State) → is_length_register n ≡ true
    → record (after_single_step (executed (MoveSp To rt n) s)) { dmem = s.dmem; imem = s.imem; rdram = s.rdram } ≡ after_dma_pass (register s.registers rt) s
unfolding executed instruction_effect moves_sp
dma_step rt n s e =
    let v = register s.registers rt in
    bytes_left (n % 16 == 2) (n % 16 == 3) v (after_register_write n v s.sp) s
    ∙ ap (λ (q : Sp). let t : State = record (advanced s) { sp = after_step q } in t) (length_write n v s.sp e)

-- a pass by the instruction at pc
pub dma_passed : (s : State) (rt n : ℕ) → s.sp.halted ≡ false → inst_of (word_at s.imem s.pc) ≡ Some (MoveSp To rt n) → is_length_register n ≡ true
    → pass_dma_of s ≡ Ok (after_dma_pass (register s.registers rt) s)
unfolding pass_dma_of starts_dma_at step_of
dma_passed s rt n running e starts =
    let word = word_at s.imem s.pc in
    ap (λ b. if b then Err fault.Halted else if starts_dma_in (inst_of word) then Ok (record (if b then (Halted, s) else step_by (inst_of word) word s).1 { dmem = s.dmem; imem = s.imem; rdram = s.rdram }) else Err fault.OtherWord) running
    ∙ ap (λ o. if starts_dma_in o then Ok (record (step_by o word s).1 { dmem = s.dmem; imem = s.imem; rdram = s.rdram }) else Err fault.OtherWord) e
    ∙ ap (λ b. if b then Ok (record (step_by (Some (MoveSp To rt n)) word s).1 { dmem = s.dmem; imem = s.imem; rdram = s.rdram }) else Err fault.OtherWord) starts
    ∙ ap Ok (dma_step rt n s starts)

pub other_passed : (s : State) → s.sp.halted ≡ false → starts_dma_at s ≡ false → pass_dma_of s ≡ Err fault.OtherWord
unfolding pass_dma_of
other_passed s running e =
    ap (λ b. if b then Err fault.Halted else if starts_dma_at s then Ok (record (step_of s).1 { dmem = s.dmem; imem = s.imem; rdram = s.rdram }) else Err fault.OtherWord) running
    ∙ ap (λ b. if b then Ok (record (step_of s).1 { dmem = s.dmem; imem = s.imem; rdram = s.rdram }) else Err fault.OtherWord) e

pub halted_passed : (s : State) → s.sp.halted ≡ true → pass_dma_of s ≡ Err fault.Halted
unfolding pass_dma_of
halted_passed s e = ap (λ b. if b then Err fault.Halted else if starts_dma_at s then Ok (record (step_of s).1 { dmem = s.dmem; imem = s.imem; rdram = s.rdram }) else Err fault.OtherWord) e

pub ruleset dmas = (dma_passed, other_passed, halted_passed)
