-- The record of a step undoes it.
use Rattle.std.proofs.Common.{◌≡◌, ℕ, ℤ, ◌-◌, ◌%◌, ◌==◌, ◌||◌, Bool, true, false, not, List, refl, sym, ap, subst, ◌∙◌, Option, Some, None}
use Rattle.std.specs.Prelude.{if◌then◌else◌}
use Rattle.rsp_decode.specs.declared.inst.Inst.{Inst}
use Rattle.rsp_decode.specs.declared.inst.Inst.TheVariants.{Shift, ShiftBy, JumpLinkRegister, Register, BranchSign, Jump, Immediate, LoadUpper, Load, Store, MoveSp, MoveVector, MoveControl, Multiply, Round, MpegMultiply, ReadAccumulator, VectorAdd, VectorSelect, VectorClip, VectorMerge, VectorLogic, Divide, VectorLoad, VectorStore}
use Rattle.rsp_decode.specs.declared.scalar.MoveOp.TheVariants.{From, To}
use Rattle.rsp_decode.specs.declared.scalar.BranchSignOp.TheVariants.{Bltzal, Bgezal}
use Rattle.rsp_decode.specs.declared.scalar.JumpOp.TheVariants.{Jal}
use Rattle.rsp_lanes.specs.declared.flags.Flags.{Flags}
use Rattle.rsp_memory.specs.Memory.{word_at}
use Rattle.rsp_scalar.specs.Registers.{register}
use Rattle.rsp_scalar.specs.ScalarRules.{address}
use Rattle.rsp_decode.specs.Table.{inst_of}
use Rattle.rsp_loadstore.specs.Addresses.{vector_address}
use Rattle.rsp_loadstore.specs.Loads.{file_after_load}
use Rattle.rsp_loadstore.specs.Windows.{writes_group}
use Rattle.rsp_loadstore.specs.Stores.{memory_after_store}
use Rattle.rsp_loadstore.specs.Moves.{file_after_move}
use Rattle.rsp_loadstore.proofs.Windows.{stored-back}
use Rattle.rsp_regs.specs.Sp.{after_step, after_register_write}
use Rattle.rsp_machine.specs.State.{State, advanced}
use Rattle.rsp_machine.specs.Operations.{add_of, select_of, clip_of, logic_of}
use Rattle.rsp_machine.specs.Vector.{multiplies, rounds, multiplies_mpeg, reads_accumulator, ruled, divides, loads_vector, stores_vector, moves_vector, moves_control}
use Rattle.rsp_machine.specs.Step.{computes, loads_scalar, stores_scalar, jumps, break_instruction, moves_sp, instruction_effect, executed, after_single_step, step_by, step_of}
use Rattle.rsp_machine.specs.Host.{register_written}
use Rattle.rsp_machine.specs.declared.step.StepEnd.TheVariants.{Done, Halted}
use Rattle.rsp_regs.specs.Sp.{is_length_register}
use Rattle.rsp_machine.specs.Undo.{Saved, record_of, values_saved, restored, undone, after_instruction, after_step_from}
use Rattle.rsp_machine.specs.Footprint.{footprint_of, makes_no_dma, changes_memory}
use Rattle.rsp_machine.specs.LoopTests.{IsRanged}
use Rattle.rsp_machine.specs.Transfers.{starts_dma, starts_dma_in, starts_dma_at}
use Rattle.rsp_machine.specs.Until.{changes_memory_by, changes_memory_at}
use Rattle.rsp_machine.specs.declared.footprint.Footprint.{Footprint}
use Rattle.rsp_machine.specs.declared.footprint.Footprint.TheVariants as of
use Rattle.rsp_machine.proofs.Undoing.{register-back, vector-back, store-back}
use Rattle.rsp_machine.proofs.Loading.{loaded-back, put_back}
use Rattle.rsp_machine.proofs.Flagging.{sum-back, merge-back, choice-back, logic-back}
use Rattle.rsp_machine.proofs.Lows.{add_low, select_low, merge_low, clip_low, logic_low, rule-back, divide-back}

-- the state with its parts given back
running_same : (s : State) → s.sp.halted ≡ false → record s { sp = record s.sp { halted = false } } ≡ s
running_same s h = ap (λ b. record s { sp = record s.sp { halted = b } }) (sym h)

registers_same : (s : State) (r : List ℕ) → s.sp.halted ≡ false → r ≡ s.registers → record s { registers = r; sp = record s.sp { halted = false } } ≡ s
registers_same s r h e = rw e (running_same s h)

vectors_same : (s : State) (v : List (List ℕ)) → s.sp.halted ≡ false → v ≡ s.vectors → record s { vectors = v; sp = record s.sp { halted = false } } ≡ s
vectors_same s v h e = rw e (running_same s h)

memory_same : (s : State) (m : List ℕ) → s.sp.halted ≡ false → m ≡ s.dmem → record s { dmem = m; sp = record s.sp { halted = false } } ≡ s
memory_same s m h e = rw e (running_same s h)

lanes_same : (s : State) (v : List (List ℕ)) (x : List ℤ) (f : Flags) → s.sp.halted ≡ false → v ≡ s.vectors → x ≡ s.accumulators → f ≡ s.flags
    → record s { vectors = v; accumulators = x; flags = f; sp = record s.sp { halted = false } } ≡ s
lanes_same s v x f h e b k = rw (e, b, k) (running_same s h)

-- a write of an SP register that starts no DMA
pub neither : (a b : Bool) → (a || b) ≡ false → (a ≡ false) × (b ≡ false)
neither false b e = (refl, e)
neither true b e = cc

no_dma : (n v : ℕ) (s : State) → is_length_register n ≡ false → register_written n v s ≡ record s { sp = after_register_write n v s.sp }
no_dma n v s e =
    let k = neither (n % 16 == 2) (n % 16 == 3) e in
    rw (k.0, k.1) refl

written_back : (n v : ℕ) (s : State) (r : Saved) → is_length_register n ≡ false → s.sp.halted ≡ false
    → undone (record_of (if is_length_register n then of.Dma else of.Sp 0) s r) (after_single_step (register_written n v (advanced s))) ≡ s
unfolding undone record_of values_saved restored after_step
written_back n v s r e h =
    let P : Bool → Type 0 = λ b. undone (record_of (if b then of.Dma else of.Sp 0) s r) (after_single_step (register_written n v (advanced s))) ≡ s in
    subst P (sym e) (ap (λ t. undone (record_of (of.Sp 0) s r) (after_single_step t)) (no_dma n v (advanced s) e) ∙ registers_same s _ h refl)

-- a vector load
load_back : (group : Bool) (vt : ℕ) (v : List (List ℕ)) (s : State) (r : Saved) → s.sp.halted ≡ false → put_back group vt s.vectors v ≡ s.vectors
    → undone (record_of (if group then of.Group (vt - vt % 8) else of.Vector vt) s r) (after_single_step (advanced (record s { vectors = v }))) ≡ s
unfolding undone record_of values_saved restored after_step
load_back true vt v s r h e = vectors_same s _ h e
load_back false vt v s r h e = vectors_same s _ h e

-- any instruction that starts no DMA
pub saved_back : (i : Inst) (s : State) (r : Saved) → starts_dma i ≡ false → s.sp.halted ≡ false → IsRanged s → undone (record_of (footprint_of i s) s r) (after_single_step (executed i s)) ≡ s
unfolding undone record_of values_saved restored after_step footprint_of executed instruction_effect computes loads_scalar stores_scalar jumps break_instruction moves_sp multiplies rounds multiplies_mpeg reads_accumulator ruled divides loads_vector stores_vector moves_vector moves_control file_after_load memory_after_store file_after_move
saved_back (Shift op rd rt amount) s r e h k = registers_same s _ h (register-back s.registers rd _)
saved_back (ShiftBy op f) s r e h k = registers_same s _ h (register-back s.registers f.rd _)
saved_back (Register op f) s r e h k = registers_same s _ h (register-back s.registers f.rd _)
saved_back (Immediate op rt rs imm) s r e h k = registers_same s _ h (register-back s.registers rt _)
saved_back (LoadUpper rt imm) s r e h k = registers_same s _ h (register-back s.registers rt _)
saved_back (Load op f) s r e h k = registers_same s _ h (register-back s.registers f.rt _)
saved_back (Store op f) s r e h k = memory_same s _ h (store-back op s.dmem (address s.registers f.base f.offset) (register s.registers f.rt))
saved_back (JumpLinkRegister rd rs) s r e h k = registers_same s _ h (register-back s.registers rd _)
saved_back (BranchSign Bltzal rs offset) s r e h k = registers_same s _ h (register-back s.registers 31 _)
saved_back (BranchSign Bgezal rs offset) s r e h k = registers_same s _ h (register-back s.registers 31 _)
saved_back (Jump Jal target) s r e h k = registers_same s _ h (register-back s.registers 31 _)
saved_back (MoveSp From rt n) s r e h k = registers_same s _ h (register-back s.registers rt _)
saved_back (MoveSp To rt n) s r e h k = written_back n (register s.registers rt) s r e h
saved_back (MoveVector From rt n element) s r e h k = registers_same s _ h (register-back s.registers rt _)
saved_back (MoveVector To rt n element) s r e h k = vectors_same s _ h (vector-back s.vectors n _)
saved_back (MoveControl From rt control) s r e h k = registers_same s _ h (register-back s.registers rt _)
saved_back (Multiply op f) s r e h k = vectors_same s _ h (vector-back s.vectors f.vd _)
saved_back (Round op f) s r e h k = vectors_same s _ h (vector-back s.vectors f.vd _)
saved_back (MpegMultiply op f) s r e h k = vectors_same s _ h (vector-back s.vectors f.vd _)
saved_back (ReadAccumulator f) s r e h k = vectors_same s _ h (vector-back s.vectors f.vd _)
saved_back (VectorAdd op f) s r e h k =
    lanes_same s _ _ _ h (vector-back s.vectors f.vd _) (rule-back _ (add_low (add_of op)) s r.accumulators f.vs f.vt f.element k) (sum-back (add_of op) _ _ s.flags k.flags)
saved_back (VectorSelect op f) s r e h k =
    lanes_same s _ _ _ h (vector-back s.vectors f.vd _) (rule-back _ (select_low (select_of op)) s r.accumulators f.vs f.vt f.element k) (choice-back (select_of op) _ _ s.flags k.flags)
saved_back (VectorClip op f) s r e h k =
    lanes_same s _ _ _ h (vector-back s.vectors f.vd _) (rule-back _ (clip_low (clip_of op)) s r.accumulators f.vs f.vt f.element k) refl
saved_back (VectorMerge f) s r e h k =
    lanes_same s _ _ _ h (vector-back s.vectors f.vd _) (rule-back _ merge_low s r.accumulators f.vs f.vt f.element k) (merge-back _ _ s.flags k.flags)
saved_back (VectorLogic op f) s r e h k =
    lanes_same s _ _ _ h (vector-back s.vectors f.vd _) (rule-back _ (logic_low (logic_of op)) s r.accumulators f.vs f.vt f.element k) (logic-back (logic_of op) _ _ s.flags k.flags)
saved_back (Divide op vd lane vt n) s r e h k = lanes_same s _ _ _ h (vector-back s.vectors vd _) (divide-back s r.accumulators vt n k) refl
saved_back (VectorLoad op f) s r e h k =
    load_back (writes_group op) f.vt _ s r h (loaded-back op s.dmem s.vectors f.vt f.element (vector_address (VectorLoad op f) (register s.registers f.base)))
saved_back (VectorStore op f) s r e h k =
    memory_same s _ h (stored-back op f.vt f.element (vector_address (VectorStore op f) (register s.registers f.base)) s.vectors s.dmem)
saved_back _ s r e h k = registers_same s _ h refl

-- any step that is Done and starts no DMA
back_by : (b : Bool) (o : Option Inst) (word : ℕ) (s : State) (r : Saved) → s.sp.halted ≡ b → IsRanged s
    → (if b then (Halted, s) else step_by o word s).0 ≡ Done → starts_dma_in o ≡ false
    → undone (if b then r else after_instruction record_of o s r) (if b then (Halted, s) else step_by o word s).1 ≡ s
back_by true o word s r h k done e = cc
back_by false None word s r h k done e = cc
back_by false (Some i) word s r h k done e = saved_back i s r e h k

pub record-back : (s : State) (r : Saved) → IsRanged s → (step_of s).0 ≡ Done → starts_dma_at s ≡ false → undone (after_step_from record_of s r) (step_of s).1 ≡ s
unfolding after_step_from step_of starts_dma_at
record-back s r k done e = back_by s.sp.halted (inst_of (word_at s.imem s.pc)) (word_at s.imem s.pc) s r refl k done e

-- a record has the change of its step
footprint_kept : (change : Footprint) (s : State) (r : Saved) → (record_of change s r).footprint ≡ change
unfolding record_of values_saved
footprint_kept of.ProgramCounters s r = refl
footprint_kept _ s r = refl

load_undone : (group : Bool) (vt : ℕ) → makes_no_dma (if group then of.Group (vt - vt % 8) else of.Vector vt) ≡ true
load_undone true vt = refl
load_undone false vt = refl

write_undone : (b : Bool) → makes_no_dma (if b then of.Dma else of.Sp 0) ≡ not b
write_undone true = refl
write_undone false = refl

-- an instruction's change says whether the instruction starts a DMA
pub dma_of : (i : Inst) (s : State) → makes_no_dma (footprint_of i s) ≡ not (starts_dma i)
unfolding footprint_of
dma_of (BranchSign Bltzal rs offset) s = refl
dma_of (Jump Jal target) s = refl
dma_of (MoveSp From rt n) s = refl
dma_of (MoveSp To rt n) s = write_undone (is_length_register n)
dma_of (MoveVector From rt n element) s = refl
dma_of (MoveControl From rt control) s = refl
dma_of (VectorLoad op f) s = load_undone (writes_group op) f.vt
dma_of _ s = refl

-- and so does the record of a step that is Done
dma_by : (b : Bool) (o : Option Inst) (word : ℕ) (s : State) (r : Saved) → (if b then (Halted, s) else step_by o word s).0 ≡ Done
    → makes_no_dma (if b then r else after_instruction record_of o s r).footprint ≡ not (starts_dma_in o)
dma_by true o word s r e = cc
dma_by false None word s r e = cc
dma_by false (Some i) word s r e = ap makes_no_dma (footprint_kept (footprint_of i s) s r) ∙ dma_of i s

pub record-dma : (s : State) (r : Saved) → (step_of s).0 ≡ Done → makes_no_dma (after_step_from record_of s r).footprint ≡ not (starts_dma_at s)
unfolding after_step_from step_of starts_dma_at
record-dma s r e = dma_by s.sp.halted (inst_of (word_at s.imem s.pc)) (word_at s.imem s.pc) s r e

-- a step that doesn't change DMEM leaves it
written_stays : (b : Bool) (v n : ℕ) (s : State) → is_length_register n ≡ b → changes_memory (if b then of.Dma else of.Sp 0) ≡ false → (register_written n v (advanced s)).dmem ≡ s.dmem
written_stays true v n s e h = cc
written_stays false v n s e h = ap (λ t. t.dmem) (no_dma n v (advanced s) e)

dmem_stays : (i : Inst) (s : State) → changes_memory (footprint_of i s) ≡ false → (executed i s).dmem ≡ s.dmem
unfolding footprint_of executed instruction_effect computes loads_scalar stores_scalar jumps break_instruction moves_sp multiplies rounds multiplies_mpeg reads_accumulator ruled divides loads_vector stores_vector moves_vector moves_control
dmem_stays (Store op f) s h = cc
dmem_stays (VectorStore op f) s h = cc
dmem_stays (MoveSp From rt n) s h = refl
dmem_stays (MoveSp To rt n) s h = written_stays (is_length_register n) (register s.registers rt) n s refl h
dmem_stays (MoveVector From rt n element) s h = refl
dmem_stays (MoveControl From rt control) s h = refl
dmem_stays _ s h = refl

stays_by : (b : Bool) (o : Option Inst) (word : ℕ) (s : State) → (if b then (Halted, s) else step_by o word s).0 ≡ Done → changes_memory_by o s ≡ false → (if b then (Halted, s) else step_by o word s).1.dmem ≡ s.dmem
stays_by true o word s e h = cc
stays_by false None word s e h = cc
stays_by false (Some i) word s e h = dmem_stays i s h

pub memory-kept : (s : State) → (step_of s).0 ≡ Done → changes_memory_at s ≡ false → (step_of s).1.dmem ≡ s.dmem
unfolding changes_memory_at step_of
memory-kept s e h = stays_by s.sp.halted (inst_of (word_at s.imem s.pc)) (word_at s.imem s.pc) s e h
