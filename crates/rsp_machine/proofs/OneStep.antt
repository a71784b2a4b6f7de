-- How a step of a machine that isn't halted ends.
use Rattle.std.proofs.Common.{◌≡◌, Bool, true, false, ◌||◌, refl, sym, ap, ◌∙◌}
use Rattle.std.specs.Prelude.{if◌then◌else◌}
use Rattle.rsp_decode.specs.declared.inst.Inst.{Inst}
use Rattle.rsp_decode.specs.declared.inst.Inst.TheVariants.{Break, MoveSp, MoveVector, MoveControl}
use Rattle.rsp_decode.specs.declared.scalar.MoveOp.TheVariants.{From, To}
use Rattle.rsp_regs.specs.Sp.{Sp, after_step}
use Rattle.rsp_machine.specs.State.{State}
use Rattle.rsp_machine.specs.Vector.{multiplies, rounds, multiplies_mpeg, reads_accumulator, ruled, divides, loads_vector, stores_vector, moves_vector, moves_control}
use Rattle.rsp_machine.specs.Step.{computes, loads_scalar, stores_scalar, jumps, instruction_effect, executed, after_single_step, step_of}
use Rattle.rsp_machine.specs.declared.step.StepEnd.TheVariants.{Halted}
use Rattle.rsp_machine.specs.declared.footprint.Footprint.TheVariants as of
use Rattle.rsp_regs.specs.Sp.{is_length_register}
use Rattle.rsp_machine.specs.Footprint.{footprint_of, reaches_sp}

-- an instruction that doesn't reach the SP registers leaves them
dma_reaches : (b : Bool) (X : Type 0) → reaches_sp (if b then of.Dma else of.Sp 0) ≡ false → X
dma_reaches true X h = cc
dma_reaches false X h = cc

pub leaves : (i : Inst) (s : State) → reaches_sp (footprint_of i s) ≡ false → (executed i s).sp ≡ s.sp
unfolding footprint_of executed instruction_effect computes loads_scalar stores_scalar jumps multiplies rounds multiplies_mpeg reads_accumulator ruled divides loads_vector stores_vector moves_vector moves_control
leaves Break s h = cc
leaves (MoveSp From rt n) s h = cc
leaves (MoveSp To rt n) s h = dma_reaches (is_length_register n) ((executed (MoveSp To rt n) s).sp ≡ s.sp) h
leaves (MoveVector From rt n element) s h = refl
leaves (MoveControl From rt control) s h = refl
leaves _ s h = refl

-- single step halts nothing where it is clear
pub halts-none : (p : Sp) → p.halted ≡ false → p.single_step ≡ false → after_step p ≡ p
unfolding after_step
halts-none p h e = rw (e, h) refl

-- and a machine that goes on after an instruction isn't in single step
clear_by : (h single : Bool) → (h || single) ≡ false → single ≡ false
clear_by false single e = e
clear_by true single e = cc

pub clear-after : (s t : State) → t ≡ after_single_step s → t.sp.halted ≡ false → t.sp.single_step ≡ false
unfolding after_step
clear-after s t e h = ap (λ (x : State). x.sp.single_step) e ∙ clear_by s.sp.halted s.sp.single_step (sym (ap (λ (x : State). x.sp.halted) e) ∙ h)

-- a step of a halted machine
pub step_halted : (s : State) → s.sp.halted ≡ true → step_of s ≡ (Halted, s)
unfolding step_of
step_halted s h = rw h refl
