-- The ranges of a state, instruction by instruction.
use Rattle.std.proofs.Common.{◌≡◌, ℕ, ◌+◌, ◌*◌, ◌/◌, ◌%◌, ◌<◌, ℤ, pos, ◌+ℤ◌, ◌*ℤ◌, negsuc, List, [], ◌∷◌, Bool, true, false, not, arith, nat_lt, nat_eq}
use Rattle.std.specs.Prelude.{if◌then◌else◌, slice_index, ◌==◌}
use Rattle.std.proofs.lemmas.Nat.{mod_below}
use Rattle.std.proofs.lemmas.Int.{ints}
use Rattle.std.proofs.lemmas.Bool.{and_parts, ltb-true}
use Rattle.rsp_decode.specs.declared.inst.Inst.{Inst}
use Rattle.rsp_decode.specs.declared.inst.Inst.TheVariants.{Shift, ShiftBy, JumpRegister, JumpLinkRegister, Break, Register, BranchSign, BranchEqual, Jump, Immediate, LoadUpper, Load, Store, MoveSp, MoveVector, MoveControl, Multiply, Round, MpegMultiply, ReadAccumulator, VectorAdd, VectorSelect, VectorClip, VectorMerge, VectorLogic, Divide, Idle, VectorLoad, VectorStore}
use Rattle.rsp_decode.specs.declared.fields.VectorFields.{VectorFields}
use Rattle.rsp_decode.specs.declared.vector.VectorMultiplyOp.{VectorMultiplyOp}
use Rattle.rsp_decode.specs.declared.vector.VectorRoundOp.{VectorRoundOp}
use Rattle.rsp_decode.specs.declared.vector.VectorMpegOp.{VectorMpegOp}
use Rattle.rsp_decode.specs.declared.vector.VectorDivideOp.{VectorDivideOp}
use Rattle.rsp_decode.specs.declared.vector.Control.{Control}
use Rattle.rsp_divide.specs.declared.divider.Divider.{Divider}
use Rattle.rsp_decode.specs.declared.scalar.MoveOp.TheVariants.{From, To}
use Rattle.rsp_decode.specs.declared.scalar.JumpOp.TheVariants.{J, Jal}
use Rattle.rsp_decode.specs.declared.scalar.BranchSignOp.TheVariants.{Bltz, Bgez, Bltzal, Bgezal, Blez, Bgtz}
use Rattle.rsp_decode.specs.declared.vector.Control.TheVariants.{Vco, Vcc, Vce}
use Rattle.rsp_numbers.specs.Numbers.{AreNumbers, number, s16, modulo, sixteen_bits, high, middle, low}
use Rattle.rsp_memory.specs.Memory.{IsMemory}
use Rattle.rsp_lanes.specs.Lanes.{selected, IsVector}
use Rattle.rsp_lanes.specs.Flags.{flags_at}
use Rattle.rsp_lanes.specs.Outcome.{Rule, results_of, flags_after}
use Rattle.rsp_lanes.specs.declared.flags.Flags.{Flags}
use Rattle.rsp_lanes.proofs.Kit.{length_each}
use Rattle.rsp_lanes.proofs.Products.{high_vector}
use Rattle.rsp_multiply.specs.MultiplyRules.{accumulators_after, multiply_results, sar_results, sar_lane}
use Rattle.rsp_multiply.specs.Mpeg.{accumulators_after_rounding, rounding_results, accumulators_after_mpeg, mpeg_results}
use Rattle.rsp_divide.specs.DivideRules.{writes, vd_after, divider_after}
use Rattle.rsp_acc.specs.declared.parts.Clamp.TheVariants.{Signed}
use Rattle.rsp_scalar.specs.Registers.{IsRegisters, with_register}
use Rattle.rsp_scalar.specs.ScalarRules.{branch_target}
use Rattle.rsp_scalar.specs.Flow.{address_after}
use Rattle.rsp_loadstore.specs.File.{IsFile, vector}
use Rattle.rsp_loadstore.specs.Loads.{file_after_load}
use Rattle.rsp_loadstore.specs.Stores.{memory_after_store}
use Rattle.rsp_loadstore.specs.Moves.{file_after_move, moved_value, with_register_half}
use Rattle.rsp_loadstore.specs.Controls.{flags_after_move, control_value, with_control}
use Rattle.rsp_machine.specs.State.{State, IsState, IsInstructionAddress, AreFlags, advanced}
use Rattle.rsp_machine.specs.Operations.{round_of, mpeg_of, add_of, select_of, clip_of, logic_of, divide_of}
use Rattle.rsp_machine.specs.Vector.{multiplies, rounds, multiplies_mpeg, reads_accumulator, ruled, divides, loads_vector, stores_vector, moves_vector, moves_control}
use Rattle.rsp_machine.specs.Step.{executed, instruction_effect, computes, loads_scalar, stores_scalar, jumps, moves_sp}
use Rattle.rsp_microcode.specs.Frames.{stays}
use Rattle.rsp_microcode.specs.Ranges.{fits_word, RangesKept}
use Rattle.rsp_microcode.proofs.SpReads.{reads_leave, goes, peeked_small}
use Rattle.rsp_microcode.proofs.RangesOfParts.{register_written, file_written, vector_small, vector_set, byte_written, load_kept, store_kept, are_numbers, low_numbers, wraps, clamp_small, sixteen_small, modulo_small, either_small}
use Rattle.rsp_microcode.proofs.RangesOfResults.{shift_small, shift_by_small, register_small, immediate_small, load_small, stored_small, control_small, IsSmall, add_small, select_small, merge_small, clip_small, logic_small, selected_small, division_small, round_fits, mpeg_fits}

-- addresses
pub next_address : (p : ℕ) → p % 4 ≡ 0 → IsInstructionAddress (address_after p)
next_address p e = (omega arith, omega arith)

-- a state with one part written over
advance : (s : State) → IsState s → IsState (advanced s)
advance s is = record { pc = is.npc; npc = next_address s.npc is.npc.1; registers = is.registers; vectors = is.vectors; accumulators = is.accumulators; flags = is.flags; divider = is.divider; dmem = is.dmem; imem = is.imem; rdram = is.rdram; sp = is.sp }

pub registers_kept : (s : State) (r : List ℕ) → IsRegisters r → IsState s → IsState (record s { registers = r })
registers_kept s r h is = record { pc = is.pc; npc = is.npc; registers = h; vectors = is.vectors; accumulators = is.accumulators; flags = is.flags; divider = is.divider; dmem = is.dmem; imem = is.imem; rdram = is.rdram; sp = is.sp }

pub dmem_kept : (s : State) (m : List ℕ) → IsMemory m → IsState s → IsState (record s { dmem = m })
dmem_kept s m h is = record { pc = is.pc; npc = is.npc; registers = is.registers; vectors = is.vectors; accumulators = is.accumulators; flags = is.flags; divider = is.divider; dmem = h; imem = is.imem; rdram = is.rdram; sp = is.sp }

vectors_kept : (s : State) (v : List (List ℕ)) → IsFile v → IsState s → IsState (record s { vectors = v })
vectors_kept s v h is = record { pc = is.pc; npc = is.npc; registers = is.registers; vectors = h; accumulators = is.accumulators; flags = is.flags; divider = is.divider; dmem = is.dmem; imem = is.imem; rdram = is.rdram; sp = is.sp }

accumulators_kept : (s : State) (x : List ℤ) → AreNumbers x → IsState s → IsState (record s { accumulators = x })
accumulators_kept s x h is = record { pc = is.pc; npc = is.npc; registers = is.registers; vectors = is.vectors; accumulators = h; flags = is.flags; divider = is.divider; dmem = is.dmem; imem = is.imem; rdram = is.rdram; sp = is.sp }

flags_kept : (s : State) (f : Flags) → AreFlags f → IsState s → IsState (record s { flags = f })
flags_kept s f h is = record { pc = is.pc; npc = is.npc; registers = is.registers; vectors = is.vectors; accumulators = is.accumulators; flags = h; divider = is.divider; dmem = is.dmem; imem = is.imem; rdram = is.rdram; sp = is.sp }

npc_kept : (s : State) (n : ℕ) → IsInstructionAddress n → IsState s → IsState (record s { npc = n })
npc_kept s n h is = record { pc = is.pc; npc = h; registers = is.registers; vectors = is.vectors; accumulators = is.accumulators; flags = is.flags; divider = is.divider; dmem = is.dmem; imem = is.imem; rdram = is.rdram; sp = is.sp }

divider_kept : (s : State) (d : Divider) → (d.input < 65536) × (d.output < 65536) → IsState s → IsState (record s { divider = d })
divider_kept s d h is = record { pc = is.pc; npc = is.npc; registers = is.registers; vectors = is.vectors; accumulators = is.accumulators; flags = is.flags; divider = h; dmem = is.dmem; imem = is.imem; rdram = is.rdram; sp = is.sp }

-- instructions with a rule for one lane
rule_kept : (rule : Rule) (f : VectorFields) (s : State) → IsSmall rule → IsState s → IsState (ruled rule f s)
unfolding ruled results_of flags_after
rule_kept rule f s small is =
    let a = vector s.vectors f.vs in
    let b = selected (vector s.vectors f.vt) f.element in
    let va = λ (i : ℕ). vector_small s.vectors f.vs i is.vectors in
    let vb = λ (i : ℕ). selected_small (vector s.vectors f.vt) f.element i (λ j. vector_small s.vectors f.vt j is.vectors) in
    vectors_kept _ _ (file_written s.vectors f.vd _ (λ l. high_vector _ (λ i. small _ _ (flags_at s.flags i) (va i) (vb i))) is.vectors)
    (flags_kept _ _ (record { carry = length_each _; differ = length_each _; compare = length_each _; clip = length_each _; extra = length_each _ })
    (accumulators_kept s _ (low_numbers s.accumulators _) is))

either_vector : (c : Bool) (v w : List ℕ) → IsVector v → IsVector w → IsVector (if c then v else w)
either_vector true v w h k = h
either_vector false v w h k = k

divide_kept : (op : VectorDivideOp) (vd lane vt e : ℕ) (s : State) → IsState s → IsState (divides op vd lane vt e s)
unfolding divides vd_after divider_after
divide_kept op vd lane vt e s is =
    let v = λ (i : ℕ). vector_small s.vectors vt i is.vectors in
    let d = division_small (divide_of op) s.divider (slice_index (vector s.vectors vt) (e % 8)) (slice_index (selected (vector s.vectors vt) e) lane)
    is.divider.0 is.divider.1 (v (e % 8)) (selected_small (vector s.vectors vt) e lane v) in
    vectors_kept _ _ (file_written s.vectors vd _ (λ l. either_vector (writes (divide_of op)) _ _ (vector_set _ lane _ d.0 (is.vectors.registers vd l)) (is.vectors.registers vd l)) is.vectors)
    (divider_kept _ _ d.1 (accumulators_kept s _ (low_numbers s.accumulators _) is))

multiply_kept : (op : VectorMultiplyOp) (f : VectorFields) (s : State) → IsState s → IsState (multiplies op f s)
unfolding multiplies accumulators_after multiply_results
multiply_kept op f s is =
    vectors_kept _ _ (file_written s.vectors f.vd _ (λ l. high_vector _ (λ i. clamp_small _ _)) is.vectors) (accumulators_kept s _ (are_numbers _ (λ i. wraps _)) is)

round_kept : (op : VectorRoundOp) (f : VectorFields) (s : State) → IsState s → IsState (rounds op f s)
unfolding rounds accumulators_after_rounding rounding_results
round_kept op f s is =
    vectors_kept _ _ (file_written s.vectors f.vd _ (λ l. high_vector _ (λ i. clamp_small Signed _)) is.vectors)
    (accumulators_kept s _ (are_numbers _ (λ i. round_fits (round_of op) (f.vs % 2 == 1) (number s.accumulators i) (slice_index (selected (vector s.vectors f.vt) f.element) i) (is.accumulators.1 i))) is)

half_small : (p : ℤ) → sixteen_bits p / 16 * 16 < 65536
half_small p = omega (arith, sixteen_small p)

mpeg_kept : (op : VectorMpegOp) (f : VectorFields) (s : State) → IsState s → IsState (multiplies_mpeg op f s)
unfolding multiplies_mpeg accumulators_after_mpeg mpeg_results
mpeg_kept op f s is =
    let v = λ (i : ℕ). vector_small s.vectors f.vt i is.vectors in
    vectors_kept _ _ (file_written s.vectors f.vd _ (λ l. high_vector _ (λ i. half_small _)) is.vectors)
    (accumulators_kept s _ (are_numbers _ (λ i. mpeg_fits (mpeg_of op) (number s.accumulators i) _ _ (is.accumulators.1 i) (vector_small s.vectors f.vs i is.vectors) (selected_small _ f.element i v))) is)

sar_small : (e : ℕ) (x : ℤ) → sar_lane e x < 65536
unfolding high middle low
sar_small e x =
    either_small (nat_eq e 8) _ _ 65536 (sixteen_small _)
    (either_small (nat_eq e 9) _ _ 65536 (sixteen_small _) (either_small (nat_eq e 10) _ _ 65536 (sixteen_small x) (omega arith)))

read_kept : (f : VectorFields) (s : State) → IsState s → IsState (reads_accumulator f s)
unfolding reads_accumulator sar_results
read_kept f s is = vectors_kept s _ (file_written s.vectors f.vd _ (λ l. high_vector _ (λ i. sar_small f.element _)) is.vectors) is

half_written : (v : List ℕ) (e n : ℕ) → IsVector v → IsVector (with_register_half v e n)
unfolding with_register_half
half_written v e n is =
    let one = byte_written v e (n / 256 % 256) (mod_below _ 256 (omega arith)) is in
    go (nat_lt e 15) _ _ (byte_written _ (e + 1) (n % 256) (mod_below _ 256 (omega arith)) one) one
  where
    go : (b : Bool) (x y : List ℕ) → IsVector x → IsVector y → IsVector (if b then x else y)
    go true x y h k = h
    go false x y h k = k

-- jumps and branches
wrapped_address : (z k : ℤ) → z ≡ pos 4 *ℤ k → IsInstructionAddress (modulo z 4096)
wrapped_address (pos n) (pos m) e = (omega (arith, ints), omega (arith, ints))
wrapped_address (pos n) (negsuc m) e = absurd (omega (arith, ints))
wrapped_address (negsuc n) (pos m) e = absurd (omega (arith, ints))
wrapped_address (negsuc n) (negsuc m) e = (omega (arith, ints), omega (arith, ints))

fourfold : (p : ℕ) (z : ℤ) → p % 4 ≡ 0 → pos p +ℤ pos 4 *ℤ z ≡ pos 4 *ℤ (pos (p / 4) +ℤ z)
fourfold p z h = omega (arith, ints)

target_address : (npc offset : ℕ) → npc % 4 ≡ 0 → IsInstructionAddress (branch_target npc offset)
target_address npc offset h = wrapped_address _ (pos (npc / 4) +ℤ s16 offset) (fourfold npc (s16 offset) h)

either_address : (b : Bool) (x y : ℕ) → IsInstructionAddress x → IsInstructionAddress y → IsInstructionAddress (if b then x else y)
either_address true x y h k = h
either_address false x y h k = k

branch_address : (b : Bool) (s : State) (offset : ℕ) → IsState s → IsInstructionAddress (if b then branch_target s.pc offset else address_after s.pc)
branch_address b s offset is = either_address b _ _ (target_address s.pc offset is.pc.1) (next_address s.pc is.pc.1)

register_address : (n : ℕ) → IsInstructionAddress (n / 4 % 1024 * 4)
register_address n = (omega arith, omega arith)

jump_address : (target : ℕ) → IsInstructionAddress (target * 4 % 4096)
jump_address target = (omega arith, omega arith)

linked_kept : (n : ℕ) (s : State) (p : ℕ) → IsInstructionAddress p → IsState s → IsState (record s { npc = p; registers = with_register s.registers n (address_after s.pc) })
linked_kept n s p h is =
    let t : State = record s { npc = p } in
    registers_kept t _ (register_written s.registers n (address_after s.pc) (let q = next_address s.pc is.pc.1 in omega (arith, q.0)) is.registers) (npc_kept s p h is)

marked : (c : Control) (v : ℕ) (f : Flags) → AreFlags f → AreFlags (with_control c v f)
marked Vco v f is = record { carry = length_each _; differ = length_each _; compare = is.compare; clip = is.clip; extra = is.extra }
marked Vcc v f is = record { carry = is.carry; differ = is.differ; compare = length_each _; clip = length_each _; extra = is.extra }
marked Vce v f is = record { carry = is.carry; differ = is.differ; compare = is.compare; clip = is.clip; extra = length_each _ }

-- an instruction on a state whose pc and npc have advanced
pub kept : (i : Inst) (s : State) → stays i ≡ true → fits_word i ≡ true → IsState s → IsState (instruction_effect i s)
unfolding instruction_effect computes loads_scalar stores_scalar jumps moves_sp loads_vector stores_vector moves_vector moves_control file_after_load memory_after_store file_after_move moved_value flags_after_move control_value
kept (Shift op rd rt amount) s h f is = registers_kept s _ (register_written _ rd _ (shift_small op _ amount (is.registers.words rt)) is.registers) is
kept (ShiftBy op f) s h g is = registers_kept s _ (register_written _ f.rd _ (shift_by_small op _ _ (is.registers.words f.rt)) is.registers) is
kept (Register op f) s h g is = registers_kept s _ (register_written _ f.rd _ (register_small op _ _ (is.registers.words f.rs) (is.registers.words f.rt)) is.registers) is
kept (Immediate op rt rs imm) s h f is = registers_kept s _ (register_written _ rt _ (immediate_small op _ imm (is.registers.words rs) (ltb-true imm 65536 f)) is.registers) is
kept (LoadUpper rt imm) s h f is = let l : imm < 65536 = ltb-true imm 65536 f in registers_kept s _ (register_written _ rt _ (omega arith) is.registers) is
kept (Load op f) s h g is = registers_kept s _ (register_written _ f.rt _ (load_small op s.dmem _ is.dmem) is.registers) is
kept (Store op f) s h g is = dmem_kept s _ (stored_small op s.dmem _ _ (is.registers.words f.rt) is.dmem) is
kept (JumpRegister rs) s h f is = npc_kept s _ (register_address _) is
kept (JumpLinkRegister rd rs) s h f is = linked_kept rd s _ (register_address _) is
kept Break s h f is = cc
kept (BranchSign Bltz rs offset) s h f is = npc_kept s _ (branch_address _ s offset is) is
kept (BranchSign Bgez rs offset) s h f is = npc_kept s _ (branch_address _ s offset is) is
kept (BranchSign Bltzal rs offset) s h f is = linked_kept 31 s _ (branch_address _ s offset is) is
kept (BranchSign Bgezal rs offset) s h f is = linked_kept 31 s _ (branch_address _ s offset is) is
kept (BranchSign Blez rs offset) s h f is = npc_kept s _ (branch_address _ s offset is) is
kept (BranchSign Bgtz rs offset) s h f is = npc_kept s _ (branch_address _ s offset is) is
kept (BranchEqual op rs rt offset) s h f is = npc_kept s _ (branch_address _ s offset is) is
kept (Jump J target) s h f is = npc_kept s _ (jump_address target) is
kept (Jump Jal target) s h f is = linked_kept 31 s _ (jump_address target) is
kept (MoveSp From rt n) s h f is =
    let e = reads_leave n s.sp (goes (not (n % 16 == 7)) h) in
    rw e (registers_kept s _ (register_written _ rt _ (peeked_small n s.sp is.sp) is.registers) is)
kept (MoveSp To rt n) s h f is = cc
kept (MoveVector From rt n element) s h f is = registers_kept s _ (register_written _ rt _ (modulo_small _) is.registers) is
kept (MoveVector To rt n element) s h f is = vectors_kept s _ (file_written s.vectors n _ (λ l. half_written _ element _ (is.vectors.registers n l)) is.vectors) is
kept (MoveControl From rt c) s h f is = registers_kept s _ (register_written _ rt _ (control_small c s.flags is.flags) is.registers) is
kept (MoveControl To rt c) s h f is = flags_kept s _ (marked c _ s.flags is.flags) is
kept (Multiply op f) s h g is = multiply_kept op f s is
kept (Round op f) s h g is = round_kept op f s is
kept (MpegMultiply op f) s h g is = mpeg_kept op f s is
kept (ReadAccumulator f) s h g is = read_kept f s is
kept (VectorAdd op f) s h g is = rule_kept _ f s (add_small (add_of op)) is
kept (VectorSelect op f) s h g is = rule_kept _ f s (select_small (select_of op)) is
kept (VectorClip op f) s h g is = rule_kept _ f s (clip_small (clip_of op)) is
kept (VectorMerge f) s h g is = rule_kept _ f s merge_small is
kept (VectorLogic op f) s h g is = rule_kept _ f s (logic_small (logic_of op)) is
kept (Divide op vd lane vt e) s h f is = divide_kept op vd lane vt e s is
kept (Idle op) s h f is = is
kept (VectorLoad op f) s h g is = vectors_kept s _ (load_kept op s.dmem f.vt f.element _ s.vectors is.dmem is.vectors) is
kept (VectorStore op f) s h g is = dmem_kept s _ (store_kept s.vectors _ s.dmem is.vectors is.dmem) is

pub ranges : RangesKept
unfolding executed
ranges [] s h f is = is
ranges (i ∷ is) s h f ok =
    let a = and_parts _ _ h in
    let b = and_parts _ _ f in
    ranges is _ a.1 b.1 (kept i (advanced s) a.0 b.0 (advance s ok))
