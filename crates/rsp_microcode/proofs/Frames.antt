-- What straight microcode leaves as it was.
use Rattle.std.proofs.Common.{◌≡◌, ◌≢◌, ℕ, ◌+◌, ◌-◌, ◌*◌, ◌/◌, ◌%◌, ℤ, List, [], ◌∷◌, map, ◌<◌, ◌≤◌, arith, refl, ap, ◌∙◌, Bool, true, false, ◌||◌, not, nat_lt, nat_le}
use Rattle.std.specs.Prelude.{if◌then◌else◌, ◌==◌}
use Rattle.std.proofs.lemmas.Bool.{and_parts, ltb-true, leb-true, le-leb, ne_eqb}
use Rattle.std.proofs.lemmas.Bool.Decides.{nat_tests}
use Rattle.rsp_decode.specs.declared.inst.Inst.{Inst}
use Rattle.rsp_decode.specs.declared.inst.Inst.TheVariants.{Break, MoveSp, Shift, ShiftBy, Register, Immediate, LoadUpper, Load, JumpLinkRegister, BranchSign, Jump, MoveVector, MoveControl, Multiply, Round, MpegMultiply, ReadAccumulator, VectorAdd, VectorSelect, VectorClip, VectorMerge, VectorLogic, Divide, VectorLoad}
use Rattle.rsp_decode.specs.declared.vector.VectorLoadOp.TheVariants.{Lbv, Lsv, Llv, Ldv, Lqv, Lrv, Lpv, Luv, Lhv, Lfv, Ltv}
use Rattle.rsp_decode.specs.declared.scalar.MoveOp.TheVariants.{From, To}
use Rattle.rsp_decode.specs.declared.scalar.JumpOp.TheVariants.{J, Jal}
use Rattle.rsp_decode.specs.declared.scalar.BranchSignOp.TheVariants.{Bltz, Bgez, Bltzal, Bgezal, Blez, Bgtz}
use Rattle.rsp_scalar.specs.Registers.{register, with_register}
use Rattle.rsp_loadstore.specs.File.{vector}
use Rattle.rsp_loadstore.specs.Pairs.{for_each, group_start, doubleword_start, wrapped_address}
use Rattle.rsp_loadstore.specs.Loads.{Load as Pair, to_byte, to_lane, loaded, after_load, load_pairs, file_after_load}
use Rattle.rsp_loadstore.specs.Moves.{file_after_move}
use Rattle.rsp_loadstore.specs.Addresses.{vector_address}
use Rattle.std.specs.List.{range_with_len}
use Rattle.rsp_lanes.specs.declared.flags.Flags.{Flags}
use Rattle.rsp_divide.specs.declared.divider.Divider.{Divider}
use Rattle.rsp_regs.specs.Sp.{Sp}
use Rattle.rsp_loadstore.specs.Windows.{writes_group}
use Rattle.rsp_machine.specs.State.{State, advanced}
use Rattle.rsp_machine.specs.Footprint.{loaded_footprint, scalar_in}
use Rattle.rsp_machine.specs.Vector.{multiplies, rounds, multiplies_mpeg, reads_accumulator, ruled, divides, loads_vector, stores_vector, moves_vector, moves_control}
use Rattle.rsp_machine.specs.Step.{executed, instruction_effect, computes, loads_scalar, stores_scalar, jumps, moves_sp}
use Rattle.rsp_machine.proofs.Footprints.{other_register, other_vector}
use Rattle.rsp_microcode.specs.Runs.{ran_through}
use Rattle.rsp_microcode.proofs.SpReads.{reads_leave, goes}
use Rattle.rsp_microcode.specs.Frames.{Touch, parts_in, of_row, both, of_rows, with_parts, stays, register_of, scalars_below, spare_scalar, vectors_of, spares_vector, spare_vector, vectors_below, Frame, ScalarsAbove, ScalarsSpared, VectorsAbove, VectorsSpared}

-- what a vector load leaves, whether it writes a group or one register
load_framed : (group : Bool) (vt : ℕ) (s : State) (v : List (List ℕ)) → let t = record (advanced s) { vectors = v } in t ≡ with_parts (parts_in (loaded_footprint group vt)) s t
load_framed true vt s v = refl
load_framed false vt s v = refl

-- one instruction
pub row_framed : (i : Inst) (s : State) → stays i ≡ true → executed i s ≡ with_parts (of_row i) s (executed i s)
unfolding executed instruction_effect computes loads_scalar stores_scalar jumps moves_sp multiplies rounds multiplies_mpeg reads_accumulator ruled divides loads_vector stores_vector moves_vector moves_control
row_framed Break s h = cc
row_framed (MoveSp From rt n) s h = let e = reads_leave n s.sp (goes (not (n % 16 == 7)) h) in rw e refl
row_framed (MoveSp To rt n) s h = cc
row_framed (BranchSign Bltz rs offset) s h = refl
row_framed (BranchSign Bgez rs offset) s h = refl
row_framed (BranchSign Bltzal rs offset) s h = refl
row_framed (BranchSign Bgezal rs offset) s h = refl
row_framed (BranchSign Blez rs offset) s h = refl
row_framed (BranchSign Bgtz rs offset) s h = refl
row_framed (Jump J target) s h = refl
row_framed (Jump Jal target) s h = refl
row_framed (MoveVector From rt n element) s h = refl
row_framed (MoveVector To rt n element) s h = refl
row_framed (MoveControl From rt control) s h = refl
row_framed (MoveControl To rt control) s h = refl
row_framed (VectorLoad op f) s h = load_framed (writes_group op) f.vt s _
row_framed _ s h = refl

-- one part, through two runs
joined : {X : Type 0} (a b : Bool) (x y z : X) → y ≡ (if a then y else x) → z ≡ (if b then z else y) → z ≡ (if a || b then z else x)
joined true b x y z p q = refl
joined false true x y z p q = refl
joined false false x y z p q = q ∙ p

assembled : (u : State) (r : List ℕ) (v : List (List ℕ)) (x : List ℤ) (f : Flags) (d : Divider) (m i g : List ℕ) (p : Sp)
    → u.registers ≡ r → u.vectors ≡ v → u.accumulators ≡ x → u.flags ≡ f → u.divider ≡ d → u.dmem ≡ m → u.imem ≡ i → u.rdram ≡ g → u.sp ≡ p
    → u ≡ record u { registers = r; vectors = v; accumulators = x; flags = f; divider = d; dmem = m; imem = i; rdram = g; sp = p }
assembled u r v x f d m i g p e1 e2 e3 e4 e5 e6 e7 e8 e9 = rw (← e1, ← e2, ← e3, ← e4, ← e5, ← e6, ← e7, ← e8, ← e9) refl

pub chained : (a b : Touch) (s t u : State) → t ≡ with_parts a s t → u ≡ with_parts b t u → u ≡ with_parts (both a b) s u
chained a b s t u p q =
    assembled u _ _ _ _ _ _ _ _ _
    (joined a.registers b.registers _ _ _ (ap (λ (x : State). x.registers) p) (ap (λ (x : State). x.registers) q))
    (joined a.vectors b.vectors _ _ _ (ap (λ (x : State). x.vectors) p) (ap (λ (x : State). x.vectors) q))
    (joined a.accumulators b.accumulators _ _ _ (ap (λ (x : State). x.accumulators) p) (ap (λ (x : State). x.accumulators) q))
    (joined a.flags b.flags _ _ _ (ap (λ (x : State). x.flags) p) (ap (λ (x : State). x.flags) q))
    (joined a.divider b.divider _ _ _ (ap (λ (x : State). x.divider) p) (ap (λ (x : State). x.divider) q))
    (joined a.dmem b.dmem _ _ _ (ap (λ (x : State). x.dmem) p) (ap (λ (x : State). x.dmem) q))
    (ap (λ (x : State). x.imem) q ∙ ap (λ (x : State). x.imem) p)
    (ap (λ (x : State). x.rdram) q ∙ ap (λ (x : State). x.rdram) p)
    (ap (λ (x : State). x.sp) q ∙ ap (λ (x : State). x.sp) p)

either_same : {X : Type 0} (b : Bool) (x : X) → x ≡ (if b then x else x)
either_same true x = refl
either_same false x = refl

pub unchanged : (k : Touch) (s : State) → s ≡ with_parts k s s
unchanged k s =
    assembled s _ _ _ _ _ _ _ _ _ (either_same k.registers _) (either_same k.vectors _) (either_same k.accumulators _) (either_same k.flags _) (either_same k.divider _) (either_same k.dmem _) refl refl refl

pub framed : Frame
framed [] s h = refl
framed (i ∷ is) s h =
    let parts = and_parts _ _ h in
    chained (of_row i) (of_rows is) s (executed i s) (ran_through is (executed i s)) (row_framed i s parts.0) (framed is (executed i s) parts.1)

-- the scalar register that an instruction writes
record Writes (i : Inst) (s t : State) : Type 0 where
  value : ℕ
  is : t.registers ≡ with_register s.registers (register_of i) value

load_writes : (group : Bool) (vt : ℕ) (r : List ℕ) → r ≡ with_register r (scalar_in (loaded_footprint group vt)) 0
load_writes true vt r = refl
load_writes false vt r = refl

writes : (i : Inst) (s : State) → stays i ≡ true → Writes i s (executed i s)
unfolding executed instruction_effect computes loads_scalar stores_scalar jumps moves_sp multiplies rounds multiplies_mpeg reads_accumulator ruled divides loads_vector stores_vector moves_vector moves_control
writes Break s h = cc
writes (MoveSp From rt n) s h = record { value = _; is = refl }
writes (MoveSp To rt n) s h = cc
writes (Shift op rd rt amount) s h = record { value = _; is = refl }
writes (ShiftBy op f) s h = record { value = _; is = refl }
writes (Register op f) s h = record { value = _; is = refl }
writes (Immediate op rt rs imm) s h = record { value = _; is = refl }
writes (LoadUpper rt imm) s h = record { value = _; is = refl }
writes (Load op f) s h = record { value = _; is = refl }
writes (JumpLinkRegister rd rs) s h = record { value = _; is = refl }
writes (BranchSign Bltz rs offset) s h = record { value = 0; is = refl }
writes (BranchSign Bgez rs offset) s h = record { value = 0; is = refl }
writes (BranchSign Bltzal rs offset) s h = record { value = _; is = refl }
writes (BranchSign Bgezal rs offset) s h = record { value = _; is = refl }
writes (BranchSign Blez rs offset) s h = record { value = 0; is = refl }
writes (BranchSign Bgtz rs offset) s h = record { value = 0; is = refl }
writes (Jump J target) s h = record { value = 0; is = refl }
writes (Jump Jal target) s h = record { value = _; is = refl }
writes (MoveVector From rt n element) s h = record { value = _; is = refl }
writes (MoveVector To rt n element) s h = record { value = 0; is = refl }
writes (MoveControl From rt control) s h = record { value = _; is = refl }
writes (MoveControl To rt control) s h = record { value = 0; is = refl }
writes (VectorLoad op f) s h = record { value = 0; is = load_writes (writes_group op) f.vt s.registers }
writes _ s h = record { value = 0; is = refl }

apart : (a n : ℕ) → not (a == n) ≡ true → n ≢ a
apart a n h = grind (arith, nat_tests)

-- a register that isn't written is as it was
pub scalars_spared : ScalarsSpared
scalars_spared [] n s h spare = refl
scalars_spared (i ∷ is) n s h spare =
    let stay = and_parts _ _ h in
    let here = and_parts _ _ spare in
    let w = writes i s stay.0 in
    scalars_spared is n (executed i s) stay.1 here.1 ∙ ap (λ r. register r n) w.is
    ∙ other_register s.registers (register_of i) n w.value (apart (register_of i) n here.0)

pub spare_above : (code : List Inst) (bound n : ℕ) → scalars_below bound code ≡ true → bound ≤ n → spare_scalar n code ≡ true
spare_above [] bound n h le = refl
spare_above (i ∷ is) bound n h le =
    let parts = and_parts _ _ h in
    let lt : register_of i < bound = ltb-true _ _ parts.0 in
    rw (ne_eqb (register_of i) n (omega arith), spare_above is bound n parts.1 le) refl

pub scalars_above : ScalarsAbove
scalars_above code bound n s h below le = scalars_spared code n s h (spare_above code bound n below le)

-- vector registers
abbrev written_by : Pair → ℕ
written_by (to_byte r i a) = r
written_by (to_lane r i f a) = r

load_other : (m : List ℕ) (p : Pair) (n : ℕ) (file : List (List ℕ)) → n ≢ written_by p → vector (loaded m file p) n ≡ vector file n
unfolding loaded
load_other m (to_byte r i a) n file h = other_vector file r n _ h
load_other m (to_lane r i f a) n file h = other_vector file r n _ h

loads_other : (m : List ℕ) (g : ℕ → Pair) (ks : List ℕ) (n : ℕ) (file : List (List ℕ)) → ((k : ℕ) → n ≢ written_by (g k)) → vector (after_load m file (map g ks)) n ≡ vector file n
unfolding after_load
loads_other m g [] n file h = refl
loads_other m g (k ∷ ks) n file h = loads_other m g ks n _ h ∙ load_other m (g k) n file (h k)

apart_one : (a n : ℕ) → (nat_lt n a || nat_le (a + 1) n) ≡ true → n ≢ a
apart_one a n h = grind (arith, nat_tests)

apart_eight : (a k n : ℕ) → k < 8 → (nat_lt n a || nat_le (a + 8) n) ≡ true → n ≢ a + k
apart_eight a k n l h = grind (arith, nat_tests)

vector_spared : (i : Inst) (n : ℕ) (s : State) → stays i ≡ true → spares_vector n i ≡ true → vector (executed i s).vectors n ≡ vector s.vectors n
unfolding executed instruction_effect computes loads_scalar stores_scalar jumps moves_sp multiplies rounds multiplies_mpeg reads_accumulator ruled divides loads_vector stores_vector moves_vector moves_control file_after_load load_pairs for_each file_after_move
vector_spared Break n s h spare = cc
vector_spared (MoveSp From rt k) n s h spare = refl
vector_spared (MoveSp To rt k) n s h spare = cc
vector_spared (MoveVector From rt k element) n s h spare = refl
vector_spared (MoveVector To rt k element) n s h spare = other_vector s.vectors k n _ (apart_one k n spare)
vector_spared (MoveControl From rt c) n s h spare = refl
vector_spared (MoveControl To rt c) n s h spare = refl
vector_spared (Multiply op f) n s h spare = other_vector s.vectors f.vd n _ (apart_one f.vd n spare)
vector_spared (Round op f) n s h spare = other_vector s.vectors f.vd n _ (apart_one f.vd n spare)
vector_spared (MpegMultiply op f) n s h spare = other_vector s.vectors f.vd n _ (apart_one f.vd n spare)
vector_spared (ReadAccumulator f) n s h spare = other_vector s.vectors f.vd n _ (apart_one f.vd n spare)
vector_spared (VectorAdd op f) n s h spare = other_vector s.vectors f.vd n _ (apart_one f.vd n spare)
vector_spared (VectorSelect op f) n s h spare = other_vector s.vectors f.vd n _ (apart_one f.vd n spare)
vector_spared (VectorClip op f) n s h spare = other_vector s.vectors f.vd n _ (apart_one f.vd n spare)
vector_spared (VectorMerge f) n s h spare = other_vector s.vectors f.vd n _ (apart_one f.vd n spare)
vector_spared (VectorLogic op f) n s h spare = other_vector s.vectors f.vd n _ (apart_one f.vd n spare)
vector_spared (Divide op vd lane vt e) n s h spare = other_vector s.vectors vd n _ (apart_one vd n spare)
vector_spared (VectorLoad Ltv f) n s h spare =
    let a = vector_address (VectorLoad Ltv f) (register s.registers f.base) in
    let place_of = λ (k : ℕ). to_byte (group_start f.vt + (f.element / 2 + k / 2) % 8) k (doubleword_start a + (k + f.element + a / 8 % 2 * 8) % 16) in
    loads_other s.dmem place_of (range_with_len 0 16) n s.vectors (λ k. apart_eight (group_start f.vt) ((f.element / 2 + k / 2) % 8) n (omega arith) spare)
vector_spared (VectorLoad Lbv f) n s h spare = loads_other s.dmem _ _ n s.vectors (λ k. apart_one f.vt n spare)
vector_spared (VectorLoad Lsv f) n s h spare = loads_other s.dmem _ _ n s.vectors (λ k. apart_one f.vt n spare)
vector_spared (VectorLoad Llv f) n s h spare = loads_other s.dmem _ _ n s.vectors (λ k. apart_one f.vt n spare)
vector_spared (VectorLoad Ldv f) n s h spare = loads_other s.dmem _ _ n s.vectors (λ k. apart_one f.vt n spare)
vector_spared (VectorLoad Lqv f) n s h spare = loads_other s.dmem _ _ n s.vectors (λ k. apart_one f.vt n spare)
vector_spared (VectorLoad Lrv f) n s h spare = loads_other s.dmem _ _ n s.vectors (λ k. apart_one f.vt n spare)
vector_spared (VectorLoad Lpv f) n s h spare = let a = vector_address (VectorLoad Lpv f) (register s.registers f.base) in loads_other s.dmem (λ j. to_lane f.vt j 256 (wrapped_address a (16 - f.element + j))) (range_with_len 0 8) n s.vectors (λ k. apart_one f.vt n spare)
vector_spared (VectorLoad Luv f) n s h spare = let a = vector_address (VectorLoad Luv f) (register s.registers f.base) in loads_other s.dmem (λ j. to_lane f.vt j 128 (wrapped_address a (16 - f.element + j))) (range_with_len 0 8) n s.vectors (λ k. apart_one f.vt n spare)
vector_spared (VectorLoad Lhv f) n s h spare = let a = vector_address (VectorLoad Lhv f) (register s.registers f.base) in loads_other s.dmem (λ j. to_lane f.vt j 128 (wrapped_address a (16 - f.element + 2 * j))) (range_with_len 0 8) n s.vectors (λ k. apart_one f.vt n spare)
vector_spared (VectorLoad Lfv f) n s h spare = let a = vector_address (VectorLoad Lfv f) (register s.registers f.base) in loads_other s.dmem (λ j. to_lane f.vt (f.element / 2 + j) 128 (wrapped_address a (4 * j))) (range_with_len 0 4) n s.vectors (λ k. apart_one f.vt n spare)
vector_spared _ n s h spare = refl

pub vectors_spared : VectorsSpared
vectors_spared [] n s h spare = refl
vectors_spared (i ∷ is) n s h spare =
    let stay = and_parts _ _ h in
    let here = and_parts _ _ spare in
    vectors_spared is n (executed i s) stay.1 here.1 ∙ vector_spared i n s stay.0 here.0

one_past : (i : Inst) (bound n : ℕ) → nat_le ((vectors_of i).0 + (vectors_of i).1) bound ≡ true → bound ≤ n → spares_vector n i ≡ true
one_past i bound n h le = either _ (le-leb _ n (let l : (vectors_of i).0 + (vectors_of i).1 ≤ bound = leb-true _ _ h in omega arith))
  where
    either : (a : Bool) {b : Bool} → b ≡ true → (a || b) ≡ true
    either true e = refl
    either false e = e

pub vectors_spare_above : (code : List Inst) (bound n : ℕ) → vectors_below bound code ≡ true → bound ≤ n → spare_vector n code ≡ true
vectors_spare_above [] bound n h le = refl
vectors_spare_above (i ∷ is) bound n h le =
    let parts = and_parts _ _ h in
    rw (one_past i bound n parts.0 le, vectors_spare_above is bound n parts.1 le) refl

pub vectors_above : VectorsAbove
vectors_above code bound n s h below le = vectors_spared code n s h (vectors_spare_above code bound n below le)
