-- The first of some bytes that is 0.
use Rattle.std.proofs.Common.{◌≡◌, ◌≢◌, ℕ, ◌+◌, ◌-◌, ◌*◌, ◌%◌, ◌^◌, ◌<◌, ◌≤◌, List, [], ◌∷◌, length, map, Some, true, false, refl, ap, sym, subst, ◌∙◌, arith, inl, inr}
use Rattle.std.specs.Prelude.{if◌then◌else◌}
use Rattle.std.proofs.lemmas.Bool.{cases_lt, lt-ltb, le-ltb, eq-eqb, ne_eqb}
use Rattle.rsp_decode.specs.declared.inst.Inst.TheVariants.{Load, Immediate, Shift, BranchEqual}
use Rattle.rsp_decode.specs.declared.scalar.LoadOp.TheVariants.{Lbu}
use Rattle.rsp_decode.specs.declared.scalar.ImmediateOp.TheVariants.{Addiu}
use Rattle.rsp_decode.specs.declared.scalar.BranchEqualOp.TheVariants.{Beq, Bne}
use Rattle.rsp_decode.specs.declared.scalar.ShiftOp.TheVariants.{Sll}
use Rattle.rsp_decode.specs.Table.Words.{inst_of, row_of}
use Rattle.rsp_memory.specs.Memory.{byte_at}
use Rattle.rsp_multiply.specs.Laws.{SumsOfProducts}
use Rattle.rsp_scalar.specs.Registers.{register}
use Rattle.rsp_machine.specs.State.{State, IsState}
use Rattle.rsp_machine.specs.Step.{executed, instruction_effect, computes, loads_scalar, jumps}
use Rattle.rsp_machine.specs.Laws.{steps_of}
use Rattle.rsp_microcode.specs.Runs.{IsAt}
use Rattle.rsp_microcode.specs.Blocks.{Ran}
use Rattle.rsp_microcode.specs.Pieces.{rows, after_pieces}
use Rattle.rsp_microcode.specs.Loops.{Loop, loop_code, round_of}
use Rattle.rsp_microcode.specs.Branches.{turns}
use Rattle.rsp_microcode.specs.Exits.{Exits, exits_words, exits_code, GoesRound, AfterRounds}
use Rattle.rsp_microcode.proofs.Blocks.{steps_after}
use Rattle.rsp_microcode.proofs.Exits.{exits_run}
use Rattle.rsp_microcode.proofs.Joins.{ran_others}
use Rattle.rsp_microcode.proofs.Listings.{listed}
use Rattle.rsp_routines.specs.FindZero.{AreBytes, FindsZero, FindsZeros}

-- up to the branch that leaves the loop
abbrev first : Loop
first = record {
  words = 0x90220000 ∷ 0x10400004 ∷ 0x00000000 ∷ [];
  pieces = rows (Load Lbu (record { rt = 2; offset = 0; base = 1 }) ∷ []) ∷ [];
  branch = BranchEqual Beq 2 0 4;
  slot = Shift Sll 0 0 0;
}

-- up to the branch that goes back
abbrev last : Loop
last = record {
  words = 0x24210001 ∷ 0x1423fffb ∷ 0x00000000 ∷ [];
  pieces = rows (Immediate Addiu 1 1 1 ∷ []) ∷ [];
  branch = BranchEqual Bne 1 3 0xfffb;
  slot = Shift Sll 0 0 0;
}

abbrev find : Exits
find = record { first = first; last = last }

first_decoded : map inst_of first.words ≡ map Some (loop_code first)
unfolding inst_of row_of
first_decoded = refl

last_decoded : map inst_of last.words ≡ map Some (loop_code last)
unfolding inst_of row_of
last_decoded = refl

-- the registers that the branches compare (p, q), and register 1 after each block (u, v)
counted : (t : State) → length t.registers ≡ 32 →
    let r = t.registers in
    let p = (after_pieces first.pieces t).registers in
    let u = (round_of first t).registers in
    let q = (after_pieces last.pieces (round_of first t)).registers in
    let v = (round_of last (round_of first t)).registers in
    (register p 2 ≡ byte_at t.dmem ((register r 1 + 0) % 2 ^ 32)) × (register p 0 ≡ register r 0) × (register u 1 ≡ register r 1)
    × (register q 1 ≡ (register r 1 + 1) % 2 ^ 32) × (register q 3 ≡ register r 3) × (register v 1 ≡ (register r 1 + 1) % 2 ^ 32)
unfolding executed instruction_effect computes loads_scalar jumps
counted t n =
    let e = listed t.registers n in
    let p = λ (i : ℕ) (r : List ℕ). register (after_pieces first.pieces (record t { registers = r })).registers i in
    let u = λ (r : List ℕ). register (round_of first (record t { registers = r })).registers 1 in
    let q = λ (i : ℕ) (r : List ℕ). register (after_pieces last.pieces (round_of first (record t { registers = r }))).registers i in
    let v = λ (r : List ℕ). register (round_of last (round_of first (record t { registers = r }))).registers 1 in
    (ap (p 2) e, ap (p 0) e, ap u e, ap (q 1) e, ap (q 3) e, ap v e)

same_dmem : (t : State) → (round_of last (round_of first t)).dmem ≡ t.dmem
unfolding executed instruction_effect computes loads_scalar jumps
same_dmem t = refl

-- what holds after k rounds
record Holds (s : State) (k : ℕ) (t : State) : Type 0 where
  address : register t.registers 1 ≡ register s.registers 1 + k
  dmem : t.dmem ≡ s.dmem

-- the byte that the next round reads
read : (s t : State) (k : ℕ) → IsState t → Holds s k t → register (after_pieces first.pieces t).registers 2 ≡ byte_at s.dmem (register s.registers 1 + k)
read s t k is holds =
    let e = holds.address in
    let small = is.registers.words 1 in
    let there : (register t.registers 1 + 0) % 2 ^ 32 ≡ register s.registers 1 + k = omega arith in
    (counted t is.registers.count).0 ∙ ap (byte_at t.dmem) there ∙ ap (λ m. byte_at m (register s.registers 1 + k)) holds.dmem

passes : (s t : State) (k : ℕ) → IsState t → Holds s k t → byte_at s.dmem (register s.registers 1 + k) ≢ 0 → turns first t ≡ false
passes s t k is holds some = let q = counted t is.registers.count in rw (read s t k is holds, q.1, is.registers.zero) (ne_eqb _ 0 some)

leaves : (s t : State) (k : ℕ) → IsState t → Holds s k t → byte_at s.dmem (register s.registers 1 + k) ≡ 0 → turns first t ≡ true
leaves s t k is holds none = let q = counted t is.registers.count in rw (read s t k is holds, q.1, is.registers.zero, none) refl

-- j whole rounds, if each of their bytes isn't 0 and one is left
rounds : SumsOfProducts → (s : State) → IsState s → IsAt (exits_words find) s → (n m : ℕ) → AreBytes s n m → (j : ℕ) → j ≤ n → j < m
    → AfterRounds find j (Holds s) s (steps_of (j * 6) s)
rounds law s is at n m bytes j most left = exits_run law find first_decoded last_decoded refl s is at j (Holds s) (record { address = omega arith; dmem = refl }) each
  where
    each : GoesRound find s j (Holds s)
    each k t lt ok spares holds =
        let q = counted t ok.registers.count in
        let e = holds.address in
        let end = bytes.end in
        let three = spares.scalars 3 refl in
        let small = is.registers.words 3 in
        let next : (register t.registers 1 + 1) % 2 ^ 32 ≡ register s.registers 1 + (k + 1) = omega arith in (
          tt,
          passes s t k ok holds (bytes.before k (omega arith)),
          tt,
          rw (q.3, q.4, three, next, ne_eqb (register s.registers 1 + (k + 1)) (register s.registers 3) (omega arith)) refl,
          record { address = q.5 ∙ next; dmem = same_dmem t ∙ holds.dmem },
        )

pub does : SumsOfProducts → FindsZeros (exits_words find)
does law s is at n m bytes = elim (cases_lt n m) [
  | inl lt ↦
      let t = steps_of (n * 6) s in
      let end = rounds law s is at n m bytes n (omega arith) lt in
      let out = end.by_first tt (leaves s t n end.ranges end.holds (bytes.there lt)) in
      let found = ap (λ (x : State). register x.registers 1) out.0 ∙ (counted t end.ranges.registers.count).2 ∙ end.holds.address in
      let steps = ap (λ b. steps_of (if b then n * 6 + 3 else n * 6) s) (lt-ltb n m lt) ∙ steps_after (n * 6) 3 s in
      subst (λ (x : State). FindsZero (exits_words find) s x n) (sym steps) (ended s _ n is at found out.1)
  | inr ge ↦
      let j = n - 1 in
      let t = steps_of (j * 6) s in
      let some = bytes.some in
      let all = bytes.among in
      let end = rounds law s is at n m bytes j (omega arith) (omega arith) in
      let q = counted t end.ranges.registers.count in
      let e = end.holds.address in
      let past = bytes.end in
      let three = end.spares.scalars 3 refl in
      let small = is.registers.words 3 in
      let next : (register t.registers 1 + 1) % 2 ^ 32 ≡ register s.registers 3 = omega arith in
      let over : turns last (round_of first t) ≡ false = rw (q.3, q.4, three, next, eq-eqb (register s.registers 3) (register s.registers 3) refl) refl in
      let out = end.by_last tt (passes s t j end.ranges end.holds (bytes.before j (omega arith))) tt over in
      let at_end : register s.registers 3 ≡ register s.registers 1 + n = omega arith in
      let found = ap (λ (x : State). register x.registers 1) out.0 ∙ q.5 ∙ next ∙ at_end in
      let count : n * 6 ≡ j * 6 + 6 = omega arith in
      let steps = ap (λ b. steps_of (if b then n * 6 + 3 else n * 6) s) (le-ltb n m ge) ∙ ap (λ k. steps_of k s) count ∙ steps_after (j * 6) 6 s in
      subst (λ (x : State). FindsZero (exits_words find) s x n) (sym steps) (ended s _ n is at found out.1)
]
  where
    ended : (s t : State) (n : ℕ) → IsState s → IsAt (exits_words find) s → register t.registers 1 ≡ register s.registers 1 + n → Ran (exits_words find) (exits_code find) s t
        → FindsZero (exits_words find) s t n
    ended s t n is at found ran = record { found = found; others = ran_others (exits_words find) (exits_code find) s t is at.next ran (1 ∷ 2 ∷ []) [] refl }
