-- What a step leaves: all that its footprint doesn't name. For a step that can be undone it follows from that.
use Rattle.std.proofs.Common.{◌≡◌, ◌≢◌, ◌⊎◌, ℕ, zero, suc, ◌+◌, ◌%◌, ◌==◌, ◌<◌, ◌≤◌, inl, inr, Bool, true, false, not, List, [], refl, sym, ap, subst, ◌∙◌, arith, Option, Some, None, get_or}
use Rattle.std.specs.Prelude.{if◌then◌else◌}
use Rattle.std.proofs.lemmas.Bool.{cases_eq, ne_eqb}
use Rattle.std.proofs.lemmas.List.{get_or-set_other}
use Rattle.rsp_decode.specs.declared.inst.Inst.{Inst}
use Rattle.rsp_decode.specs.declared.inst.Inst.TheVariants.{MoveSp}
use Rattle.rsp_decode.specs.declared.scalar.MoveOp.TheVariants.{From, To}
use Rattle.rsp_decode.specs.Table.{inst_of}
use Rattle.rsp_lanes.proofs.Kit.{eta}
use Rattle.rsp_lanes.specs.declared.flags.Flags.{Flags}
use Rattle.rsp_lanes.specs.Flags.{flags_at, all_flags}
use Rattle.rsp_memory.specs.Memory.{word_at, byte_at, with_byte, bytes_at, with_bytes}
use Rattle.rsp_memory.proofs.PutBack.{IsElsewhere, addresses, with_byte-elsewhere}
use Rattle.rsp_scalar.specs.Registers.{register, with_register}
use Rattle.rsp_loadstore.specs.File.{vector, with_vector}
use Rattle.rsp_regs.specs.Sp.{Sp, after_step, after_register_write}
use Rattle.rsp_machine.specs.State.{State, IsState, AreFlags, advanced}
use Rattle.rsp_machine.specs.Host.{moved_in, moved_out}
use Rattle.rsp_machine.specs.Step.{executed, instruction_effect, moves_sp, after_single_step, step_by, step_of}
use Rattle.rsp_machine.specs.Footprint.{footprint_of, scalar_in, vectors_in, has_accumulators, has_low, has_vco, has_vcc, has_flags, has_divider, is_store, makes_no_dma, changes_memory, reaches_sp}
use Rattle.rsp_machine.specs.Undo.{Saved, blank, with_group, record_of, values_saved, restored, undone}
use Rattle.rsp_machine.specs.LoopTests.{IsRanged}
use Rattle.rsp_machine.specs.Transfers.{starts_dma, starts_dma_in, starts_dma_at}
use Rattle.rsp_machine.specs.Until.{changes_memory_by, changes_memory_at}
use Rattle.rsp_machine.specs.Writes.{vector_in, writes_by, writes_of}
use Rattle.rsp_machine.specs.Footprints.{footprint_in, footprint_at, IsOutside, IsPastQuadwords, SameUpper, StaysOutside, FootprintsHold, WritesHold}
use Rattle.rsp_machine.specs.declared.step.StepEnd.TheVariants.{Done, Halted}
use Rattle.rsp_machine.specs.declared.footprint.Footprint.{Footprint}
use Rattle.rsp_machine.specs.declared.footprint.Footprint.TheVariants as of
use Rattle.rsp_machine.proofs.OneStep.{leaves}
use Rattle.rsp_machine.proofs.Stores.{stores_within}
use Rattle.rsp_machine.proofs.Undo.{saved_back, dma_of, memory-kept}

-- a write leaves the other registers, and the bytes outside of the sixteen that it writes
pub other_register : (r : List ℕ) (k n v : ℕ) → n ≢ k → register (with_register r k v) n ≡ register r n
other_register r k n v h = elim (cases_eq k 0) [
  | inl e ↦ rw e refl
  | inr ne ↦ rw (ne_eqb k 0 ne) (get_or-set_other r k n v 0 h)
]

pub other_vector : (file : List (List ℕ)) (k n : ℕ) (v : List ℕ) → n ≢ k → vector (with_vector file k v) n ≡ vector file n
unfolding vector with_vector
other_vector file k n v h = get_or-set_other file k n v [] h

apart : (k n j : ℕ) → (n < k) ⊎ (k + 8 ≤ n) → j < 8 → n ≢ k + j
apart k n j (inl l) h e = omega (arith, l, e)
apart k n j (inr l) h e = omega (arith, l, e, h)

apart_one : (k n : ℕ) → (n < k) ⊎ (k + 1 ≤ n) → n ≢ k
apart_one k n (inl l) e = omega (arith, l, e)
apart_one k n (inr l) e = omega (arith, l, e)

other_group : (file : List (List ℕ)) (k n : ℕ) (vs : List (List ℕ)) → (n < k) ⊎ (k + 8 ≤ n) → vector (with_group file k vs) n ≡ vector file n
other_group file k n vs out =
    other_vector _ (k + 7) n _ (apart k n 7 out (omega arith))
    ∙ other_vector _ (k + 6) n _ (apart k n 6 out (omega arith))
    ∙ other_vector _ (k + 5) n _ (apart k n 5 out (omega arith))
    ∙ other_vector _ (k + 4) n _ (apart k n 4 out (omega arith))
    ∙ other_vector _ (k + 3) n _ (apart k n 3 out (omega arith))
    ∙ other_vector _ (k + 2) n _ (apart k n 2 out (omega arith))
    ∙ other_vector _ (k + 1) n _ (apart k n 1 out (omega arith))
    ∙ other_vector file k n _ (λ e. apart k n 0 out (omega arith) (e ∙ omega arith))

elsewhere_from : (q a n : ℕ) → ((k : ℕ) → k < n → q ≢ (a + k) % 4096) → IsElsewhere q (addresses a n)
elsewhere_from q a zero h = tt
elsewhere_from q a (suc n) h =
    let first : a ≡ a + 0 = omega arith in
    (λ e. h 0 (omega arith) (e ∙ ap (λ i. i % 4096) first), elsewhere_from q (a + 1) n (λ k l e. let next : a + 1 + k ≡ a + suc k = omega arith in h (suc k) (omega (arith, l)) (e ∙ ap (λ i. i % 4096) next)))

other_byte : (k : ℕ) (m n : List ℕ) (a q : ℕ) → IsElsewhere q (addresses a k) → get_or (with_bytes n a (bytes_at m a k)) q 0 ≡ get_or n q 0
other_byte zero m n a q h = refl
other_byte (suc k) m n a q h = other_byte k m (with_byte n a (byte_at m a)) (a + 1) q h.1 ∙ with_byte-elsewhere n a _ q h.0

-- what a record undoes to s differs from s in the footprint alone
module _ (s t : State) (r : Saved) where
  registers_stay : (f : Footprint) → makes_no_dma f ≡ true → undone (record_of f s r) t ≡ s → (n : ℕ) → n ≢ scalar_in f → register t.registers n ≡ register s.registers n
  unfolding undone record_of values_saved restored
  registers_stay of.Dma b e n h = cc
  registers_stay (of.Register k) b e n h = sym (other_register t.registers k n _ h) ∙ ap (λ (x : State). register x.registers n) e
  registers_stay (of.Sp k) b e n h = sym (other_register t.registers k n _ h) ∙ ap (λ (x : State). register x.registers n) e
  registers_stay _ b e n h = ap (λ (x : State). register x.registers n) e

  one_stays : (k n : ℕ) (v : List ℕ) (file : List (List ℕ)) → with_vector t.vectors k v ≡ file → (n < k) ⊎ (k + 1 ≤ n) → vector t.vectors n ≡ vector file n
  one_stays k n v file e h = sym (other_vector t.vectors k n v (apart_one k n h)) ∙ ap (λ l. vector l n) e

  vectors_stay : (f : Footprint) → makes_no_dma f ≡ true → undone (record_of f s r) t ≡ s → (n : ℕ) → (n < (vectors_in f).0) ⊎ ((vectors_in f).0 + (vectors_in f).1 ≤ n) → vector t.vectors n ≡ vector s.vectors n
  unfolding undone record_of values_saved restored
  vectors_stay of.Dma b e n h = cc
  vectors_stay (of.Vector k) b e n h = one_stays k n _ _ (ap (λ (x : State). x.vectors) e) h
  vectors_stay (of.Group k) b e n h = sym (other_group t.vectors k n _ h) ∙ ap (λ (x : State). vector x.vectors n) e
  vectors_stay (of.Product k) b e n h = one_stays k n _ _ (ap (λ (x : State). x.vectors) e) h
  vectors_stay (of.Low k) b e n h = one_stays k n _ _ (ap (λ (x : State). x.vectors) e) h
  vectors_stay (of.Sum k) b e n h = one_stays k n _ _ (ap (λ (x : State). x.vectors) e) h
  vectors_stay (of.Choice k) b e n h = one_stays k n _ _ (ap (λ (x : State). x.vectors) e) h
  vectors_stay (of.Clip k) b e n h = one_stays k n _ _ (ap (λ (x : State). x.vectors) e) h
  vectors_stay (of.Divide k) b e n h = one_stays k n _ _ (ap (λ (x : State). x.vectors) e) h
  vectors_stay _ b e n h = ap (λ (x : State). vector x.vectors n) e

  accumulators_stay : (f : Footprint) → makes_no_dma f ≡ true → undone (record_of f s r) t ≡ s → has_accumulators f ≡ false → has_low f ≡ false → t.accumulators ≡ s.accumulators
  unfolding undone record_of values_saved restored
  accumulators_stay of.Dma b e all low = cc
  accumulators_stay (of.Product k) b e all low = cc
  accumulators_stay (of.Low k) b e all low = cc
  accumulators_stay (of.Sum k) b e all low = cc
  accumulators_stay (of.Choice k) b e all low = cc
  accumulators_stay (of.Clip k) b e all low = cc
  accumulators_stay (of.Divide k) b e all low = cc
  accumulators_stay _ b e all low = ap (λ (x : State). x.accumulators) e

  upper_stays : (f : Footprint) → undone (record_of f s r) t ≡ s → has_low f ≡ true → SameUpper t.accumulators s.accumulators
  unfolding undone record_of values_saved restored
  upper_stays (of.Low k) e low = record { low = _; is = ap (λ (x : State). x.accumulators) e }
  upper_stays (of.Sum k) e low = record { low = _; is = ap (λ (x : State). x.accumulators) e }
  upper_stays (of.Choice k) e low = record { low = _; is = ap (λ (x : State). x.accumulators) e }
  upper_stays (of.Clip k) e low = record { low = _; is = ap (λ (x : State). x.accumulators) e }
  upper_stays (of.Divide k) e low = record { low = _; is = ap (λ (x : State). x.accumulators) e }
  upper_stays _ e low = cc

  vco_stays : (f : Footprint) → makes_no_dma f ≡ true → undone (record_of f s r) t ≡ s → has_vco f ≡ false → (t.flags.carry ≡ s.flags.carry) × (t.flags.differ ≡ s.flags.differ)
  unfolding undone record_of values_saved restored
  vco_stays of.Dma b e h = cc
  vco_stays (of.Sum k) b e h = cc
  vco_stays (of.Choice k) b e h = cc
  vco_stays (of.Clip k) b e h = cc
  vco_stays of.Flags b e h = cc
  vco_stays _ b e h = (ap (λ (x : State). x.flags.carry) e, ap (λ (x : State). x.flags.differ) e)

  vcc_stays : (f : Footprint) → makes_no_dma f ≡ true → undone (record_of f s r) t ≡ s → has_vcc f ≡ false → (t.flags.compare ≡ s.flags.compare) × (t.flags.clip ≡ s.flags.clip)
  unfolding undone record_of values_saved restored
  vcc_stays of.Dma b e h = cc
  vcc_stays (of.Choice k) b e h = cc
  vcc_stays (of.Clip k) b e h = cc
  vcc_stays of.Flags b e h = cc
  vcc_stays _ b e h = (ap (λ (x : State). x.flags.compare) e, ap (λ (x : State). x.flags.clip) e)

  vce_stays : (f : Footprint) → makes_no_dma f ≡ true → undone (record_of f s r) t ≡ s → has_flags f ≡ false → t.flags.extra ≡ s.flags.extra
  unfolding undone record_of values_saved restored
  vce_stays of.Dma b e h = cc
  vce_stays (of.Clip k) b e h = cc
  vce_stays of.Flags b e h = cc
  vce_stays _ b e h = ap (λ (x : State). x.flags.extra) e

  divider_stays : (f : Footprint) → makes_no_dma f ≡ true → undone (record_of f s r) t ≡ s → has_divider f ≡ false → t.divider ≡ s.divider
  unfolding undone record_of values_saved restored
  divider_stays of.Dma b e h = cc
  divider_stays (of.Divide k) b e h = cc
  divider_stays _ b e h = ap (λ (x : State). x.divider) e

  dmem_stays : (f : Footprint) → undone (record_of f s r) t ≡ s → (x : ℕ) → IsOutside f x → byte_at t.dmem x ≡ byte_at s.dmem x
  unfolding undone record_of values_saved restored byte_at
  dmem_stays of.Dma e x out = absurd out
  dmem_stays (of.Bytes a) e x out =
      sym (other_byte 16 s.dmem t.dmem a (x % 4096) (elsewhere_from (x % 4096) a 16 out)) ∙ ap (λ (y : State). get_or y.dmem (x % 4096) 0) e
  dmem_stays _ e x out = ap (λ (y : State). byte_at y.dmem x) e

  memories_stay : (f : Footprint) → makes_no_dma f ≡ true → undone (record_of f s r) t ≡ s → (t.imem ≡ s.imem) × (t.rdram ≡ s.rdram)
  unfolding undone record_of values_saved restored
  memories_stay of.Dma b e = cc
  memories_stay _ b e = (ap (λ (x : State). x.imem) e, ap (λ (x : State). x.rdram) e)

  undone_outside : (f : Footprint) → makes_no_dma f ≡ true → undone (record_of f s r) t ≡ s → (reaches_sp f ≡ false → t.sp ≡ after_step s.sp) → StaysOutside f s t
  undone_outside f b e sp = record {
    registers = registers_stay f b e;
    vectors = vectors_stay f b e;
    accumulators = accumulators_stay f b e;
    upper = upper_stays f e;
    vco = vco_stays f b e;
    vcc = vcc_stays f b e;
    vce = vce_stays f b e;
    divider = divider_stays f b e;
    dmem = dmem_stays f e;
    memories = λ m. memories_stay f b e;
    sp = sp;
  }

-- what a DMA leaves
memories_outside : (p : Sp) (s : State) (dmem imem rdram : List ℕ) → StaysOutside of.Dma s (after_single_step (record (advanced s) { dmem = dmem; imem = imem; rdram = rdram; sp = p }))
memories_outside p s dmem imem rdram = record { registers = λ n h. refl; vectors = λ n h. refl; accumulators = λ h k. refl; upper = λ h. cc; vco = λ h. (refl, refl); vcc = λ h. (refl, refl); vce = λ h. refl; divider = λ h. refl; dmem = λ x out. absurd out; memories = λ h. cc; sp = λ h. cc }

dma_outside : (a b : Bool) (v : ℕ) (p : Sp) (s : State)
    → StaysOutside of.Dma s (after_single_step (record (if a then moved_in v (advanced s) else if b then moved_out v (advanced s) else advanced s) { sp = p }))
dma_outside true b v p s = memories_outside p s _ _ _
dma_outside false true v p s = memories_outside p s _ _ _
dma_outside false false v p s = memories_outside p s _ _ _

transfer_outside : (i : Inst) (s : State) → starts_dma i ≡ true → StaysOutside (footprint_of i s) s (after_single_step (executed i s))
unfolding footprint_of executed instruction_effect moves_sp
transfer_outside (MoveSp From rt n) s e = cc
transfer_outside (MoveSp To rt n) s e =
    let v = register s.registers rt in
    let t = after_single_step (executed (MoveSp To rt n) s) in
    subst (λ (b : Bool). StaysOutside (if b then of.Dma else of.Sp 0) s t) (sym e) (dma_outside (n % 16 == 2) (n % 16 == 3) v (after_register_write n v s.sp) s)
transfer_outside _ s e = cc

-- any instruction
instruction_outside : (b : Bool) (i : Inst) (s : State) → starts_dma i ≡ b → s.sp.halted ≡ false → IsRanged s → StaysOutside (footprint_of i s) s (after_single_step (executed i s))
instruction_outside true i s e h k = transfer_outside i s e
instruction_outside false i s e h k =
    undone_outside s (after_single_step (executed i s)) blank (footprint_of i s) (dma_of i s ∙ ap not e) (saved_back i s blank e h k) (λ none. ap after_step (leaves i s none))

step_outside : (b : Bool) (o : Option Inst) (word : ℕ) (s : State) → s.sp.halted ≡ b → IsRanged s → (if b then (Halted, s) else step_by o word s).0 ≡ Done
    → StaysOutside (footprint_in o s) s (if b then (Halted, s) else step_by o word s).1
step_outside true o word s h k done = cc
step_outside false None word s h k done = cc
step_outside false (Some i) word s h k done = instruction_outside (starts_dma i) i s refl h k

-- the ranges that undoing depends on
flags_as : (f : Flags) (a b c d e : List Bool) → f.carry ≡ a → f.differ ≡ b → f.compare ≡ c → f.clip ≡ d → f.extra ≡ e → f ≡ record { carry = a; differ = b; compare = c; clip = d; extra = e }
flags_as f a b c d e p q r t u = rw (← p, ← q, ← r, ← t, ← u) refl

flags_ranged : (f : Flags) → AreFlags f → f ≡ all_flags (flags_at f)
flags_ranged f h = flags_as f _ _ _ _ _ (eta false f.carry h.carry) (eta false f.differ h.differ) (eta false f.compare h.compare) (eta false f.clip h.clip) (eta false f.extra h.extra)

ranged : (s : State) → IsState s → IsRanged s
ranged s h = record { vectors = h.vectors; accumulators = h.accumulators; flags = flags_ranged s.flags h.flags }

pub footprints_hold : FootprintsHold
unfolding footprint_at step_of
footprints_hold s h done = step_outside s.sp.halted (inst_of (word_at s.imem s.pc)) (word_at s.imem s.pc) s refl (ranged s h) done

-- what a trace says
vector_out : (f : Footprint) (n : ℕ) → (n < vector_in f) ⊎ (vector_in f + (vectors_in f).1 ≤ n) → (n < (vectors_in f).0) ⊎ ((vectors_in f).0 + (vectors_in f).1 ≤ n)
vector_out of.ProgramCounters n h = inr (omega arith)
vector_out (of.Register k) n h = inr (omega arith)
vector_out (of.Bytes a) n h = inr (omega arith)
vector_out of.Flags n h = inr (omega arith)
vector_out (of.Sp k) n h = inr (omega arith)
vector_out of.Dma n h = inr (omega arith)
vector_out _ n h = h

leaves_memory : (f : Footprint) → makes_no_dma f ≡ true → is_store f ≡ false → changes_memory f ≡ false
leaves_memory f a b = rw (a, b) refl

writes_by_hold : (o : Option Inst) (s t : State) → StaysOutside (footprint_in o s) s t → (changes_memory_by o s ≡ false → t.dmem ≡ s.dmem)
    → ((n : ℕ) → n ≢ (writes_by o s).scalar → register t.registers n ≡ register s.registers n)
    × (((n : ℕ) → (n < (writes_by o s).vector) ⊎ ((writes_by o s).vector + (vectors_in (footprint_in o s)).1 ≤ n) → vector t.vectors n ≡ vector s.vectors n)
    × (((writes_by o s).stored ≡ false → starts_dma_in o ≡ false → t.dmem ≡ s.dmem)
    × ((writes_by o s).stored ≡ true → (x : ℕ) → IsPastQuadwords (writes_by o s).address x → byte_at t.dmem x ≡ byte_at s.dmem x)))
writes_by_hold None s t h d = (h.registers, (λ n out. h.vectors n (inr (omega arith)), (λ a b. d refl, λ a x out. cc)))
writes_by_hold (Some i) s t h d = (
  h.registers,
  (
    λ n out. h.vectors n (vector_out (footprint_of i s) n out),
    (λ a b. d (leaves_memory (footprint_of i s) (dma_of i s ∙ ap not b) a), λ a x out. h.dmem x (stores_within i s x a out)),
  ),
)

pub writes_hold : WritesHold
unfolding writes_of footprint_at starts_dma_at changes_memory_at
writes_hold s h done =
    let w = writes_by_hold (inst_of (word_at s.imem s.pc)) s (step_of s).1 (footprints_hold s h done) (memory-kept s done) in
    record { scalar = w.0; vector = w.1.0; dmem = w.1.1.0; bytes = w.1.1.1 }

pub ruleset footprints = (footprints_hold, writes_hold)
