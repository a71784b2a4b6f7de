-- Two buffers added, in a loop.
use Rattle.std.proofs.Common.{◌≡◌, ℕ, ◌+◌, ◌*◌, ◌%◌, ◌^◌, ◌<◌, List, [], ◌∷◌, length, map, Some, false, not, refl, ap, sym, subst, ◌∙◌, arith, inl, inr}
use Rattle.std.specs.Prelude.{nat_lt, ◌==◌}
use Rattle.std.proofs.lemmas.Bool.{cases_lt, lt-ltb, le-ltb, eq-eqb, ne_eqb}
use Rattle.rsp_decode.specs.declared.inst.Inst.TheVariants.{VectorAdd, Immediate, BranchEqual}
use Rattle.rsp_decode.specs.declared.vector.VectorAddOp.TheVariants.{Vadd}
use Rattle.rsp_decode.specs.declared.scalar.ImmediateOp.TheVariants.{Addiu}
use Rattle.rsp_decode.specs.declared.scalar.BranchEqualOp.TheVariants.{Bne}
use Rattle.rsp_decode.specs.Table.Words.{inst_of, row_of}
use Rattle.rsp_lanes.specs.Lanes.{each_lane}
use Rattle.rsp_lanes.specs.Outcome.{flags_after}
use Rattle.rsp_lanes.proofs.Kit.{length_each}
use Rattle.rsp_multiply.specs.Laws.{SumsOfProducts}
use Rattle.rsp_scalar.specs.Registers.{register}
use Rattle.rsp_loadstore.specs.File.{with_vector}
use Rattle.rsp_machine.specs.State.{State, IsState}
use Rattle.rsp_machine.specs.Step.{executed, instruction_effect, computes, jumps}
use Rattle.rsp_machine.specs.Vector.{ruled}
use Rattle.rsp_microcode.specs.Lanes.{lanes_at, with_lanes}
use Rattle.rsp_microcode.specs.Reads.{after_writes}
use Rattle.rsp_microcode.specs.Loads.{WholeLoad, load, loaded}
use Rattle.rsp_microcode.specs.Pieces.{takes, puts, rows, after_pieces}
use Rattle.rsp_microcode.specs.Loops.{Loop, loop_code, round_of, HandsOn}
use Rattle.rsp_microcode.specs.Buffers.{IsFilled}
use Rattle.rsp_routines.specs.AddLanes.{limited_sums}
use Rattle.rsp_routines.specs.AddBuffers.{IsEntered, AddsAllBuffers}
use Rattle.rsp_microcode.proofs.Registers.{vector_reads, length-with_vector}
use Rattle.rsp_microcode.proofs.Listings.{listed}
use Rattle.rsp_microcode.proofs.Buffers.{filled_none, filled_one, filled_spares}
use Rattle.rsp_microcode.proofs.Loops.{loops}
use Rattle.rsp_routines.proofs.AddLanesRuns.{sums_are}

abbrev loads : List WholeLoad
loads = load 1 0 1 ∷ load 2 0 2 ∷ []

abbrev loop : Loop
loop = record {
  words = 0xc8212000 ∷ 0xc8422000 ∷ 0x4a0208d0 ∷ 0xe8632000 ∷ 0x24210010 ∷ 0x24420010 ∷ 0x2484ffff ∷ 0x1480fff8 ∷ 0x24630010 ∷ [];
  pieces = takes loads ∷ rows (VectorAdd Vadd (record { vd = 3; vs = 1; vt = 2; element = 0 }) ∷ []) ∷ puts 3 0 3
      ∷ rows (Immediate Addiu 1 1 16 ∷ Immediate Addiu 2 2 16 ∷ Immediate Addiu 4 4 0xffff ∷ []) ∷ [];
  branch = BranchEqual Bne 4 0 0xfff8;
  slot = Immediate Addiu 3 3 16;
}

decoded : map inst_of loop.words ≡ map Some (loop_code loop)
unfolding inst_of row_of
decoded = refl

-- the sum of two vectors, and what holds after k rounds
abbrev sum : State → ℕ → ℕ → ℕ → List ℕ
sum s a b k = limited_sums (lanes_at s.dmem (a + 16 * k)) (lanes_at s.dmem (b + 16 * k))

record Holds (s : State) (a b c n k : ℕ) (t : State) : Type 0 where
  one : register t.registers 1 ≡ a + 16 * k
  two : register t.registers 2 ≡ b + 16 * k
  three : register t.registers 3 ≡ c + 16 * k
  four : register t.registers 4 + k ≡ n
  carry : t.flags.carry ≡ each_lane (λ _. false)
  filled : IsFilled (sum s a b) s.dmem t.dmem c k

-- the scalar registers after a round, and those that the branch reads
counted : (t : State) → length t.registers ≡ 32 →
    let r = t.registers in
    let q = (round_of loop t).registers in
    let p = (after_pieces loop.pieces t).registers in
    (register q 1 ≡ (register r 1 + 16) % 2 ^ 32) × (register q 2 ≡ (register r 2 + 16) % 2 ^ 32) × (register q 3 ≡ (register r 3 + 16) % 2 ^ 32)
    × (register q 4 ≡ (register r 4 + 4294967295) % 2 ^ 32) × (register p 4 ≡ (register r 4 + 4294967295) % 2 ^ 32) × (register p 0 ≡ register r 0)
unfolding executed instruction_effect computes jumps ruled
counted t n =
    let e = listed t.registers n in
    let q = λ (i : ℕ) (r : List ℕ). register (round_of loop (record t { registers = r })).registers i in
    let p = λ (i : ℕ) (r : List ℕ). register (after_pieces loop.pieces (record t { registers = r })).registers i in
    (ap (q 1) e, ap (q 2) e, ap (q 3) e, ap (q 4) e, ap (p 4) e, ap (p 0) e)

-- what a round stores, and its flags
stored : (t : State) → IsState t → t.flags.carry ≡ each_lane (λ _. false) → (round_of loop t).dmem
    ≡ with_lanes t.dmem (register t.registers 3 + 16 * 0) (limited_sums (lanes_at t.dmem (register t.registers 1 + 16 * 0)) (lanes_at t.dmem (register t.registers 2 + 16 * 0)))
unfolding executed instruction_effect computes jumps ruled
stored t is clear =
    let file = after_writes with_vector (loaded loads t.dmem t.registers) t.vectors in
    let read = λ (n : ℕ). vector_reads (loaded loads t.dmem t.registers) t.vectors n is.vectors.count refl in
    ap (with_lanes t.dmem (register t.registers 3 + 16 * 0)) (
    vector_reads ((3, _) ∷ []) file 3 (length-with_vector _ 2 _ ∙ length-with_vector t.vectors 1 _ ∙ is.vectors.count) refl
    ∙ sums_are _ _ t.flags clear ∙ rw (read 1, read 2) refl
    )

cleared : (t : State) → (round_of loop t).flags.carry ≡ each_lane (λ _. false)
unfolding executed instruction_effect computes jumps ruled flags_after
cleared t = refl

-- whether a round is left
more : (r z n k : ℕ) → k < n → n < 257 → r + k ≡ n → z ≡ 0 → not ((r + 4294967295) % 2 ^ 32 == z) ≡ nat_lt (k + 1) n
more r z n k h l e zero = elim (cases_lt (k + 1) n) [
  | inl lt ↦ rw (lt-ltb (k + 1) n lt, ne_eqb ((r + 4294967295) % 2 ^ 32) z (omega arith)) refl
  | inr ge ↦ rw (le-ltb (k + 1) n ge, eq-eqb ((r + 4294967295) % 2 ^ 32) z (omega arith)) refl
]

one_round : (s : State) (a b c n : ℕ) → IsEntered s a b c n → HandsOn loop s n (Holds s a b c n)
unfolding executed instruction_effect ruled
one_round s a b c n entered k t h is spares holds =
    let e1 = holds.one in
    let e2 = holds.two in
    let e3 = holds.three in
    let e4 = holds.four in
    let fa = entered.first_buffer in
    let fb = entered.second_buffer in
    let fc = entered.sums_buffer in
    let ga = fa.aligned in
    let gb = fb.aligned in
    let gc = fc.aligned in
    let ia = fa.inside in
    let ib = fb.inside in
    let ic = fc.inside in
    let q = counted t is.registers.count in
    let one : lanes_at t.dmem (register t.registers 1 + 16 * 0) ≡ lanes_at s.dmem (a + 16 * k) = ap (lanes_at t.dmem) (omega arith) ∙ filled_spares _ _ _ c a n k fc fa entered.spares_first h holds.filled in
    let two : lanes_at t.dmem (register t.registers 2 + 16 * 0) ≡ lanes_at s.dmem (b + 16 * k) = ap (lanes_at t.dmem) (omega arith) ∙ filled_spares _ _ _ c b n k fc fb entered.spares_second h holds.filled in
    let at : register t.registers 3 + 16 * 0 ≡ c + 16 * k = omega arith in
    let memory : (round_of loop t).dmem ≡ with_lanes t.dmem (c + 16 * k) (sum s a b k) = stored t is holds.carry ∙ rw (one, two, at) refl in (
      ((omega arith, (omega arith, tt)), (omega arith, tt)),
      rw (q.4, q.5) (more (register t.registers 4) (register t.registers 0) n k h (omega arith) e4 is.registers.zero),
      record {
        one = q.0 ∙ omega arith;
        two = q.1 ∙ omega arith;
        three = q.2 ∙ omega arith;
        four = let e = q.3 in omega arith;
        carry = cleared t;
        filled = subst (λ m. IsFilled (sum s a b) s.dmem m c (k + 1)) (sym memory) (filled_one (sum s a b) s.dmem t.dmem c n k fc h is.dmem.count (length_each _) holds.filled);
      },
    )

pub adds : SumsOfProducts → AddsAllBuffers loop.words
adds law s is at entered =
    let r = s.registers in
    let a = register r 1 in
    let b = register r 2 in
    let c = register r 3 in
    let n = register r 4 in
    let start : Holds s a b c n 0 s = record {
      one = omega arith;
      two = omega arith;
      three = omega arith;
      four = omega arith;
      carry = entered.carry;
      filled = filled_none (sum s a b) s.dmem c;
    } in
    let end = loops law loop decoded refl s is at n entered.count (Holds s a b c n) start (one_round s a b c n entered) in
    record { filled = end.holds.filled; others = end.others (1 ∷ 2 ∷ 3 ∷ 4 ∷ []) (1 ∷ 2 ∷ 3 ∷ []) refl }
