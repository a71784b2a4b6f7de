-- Two buffers of samples mixed, in a loop.
use Rattle.std.proofs.Common.{◌≡◌, ℕ, ◌+◌, ◌*◌, ◌%◌, ◌^◌, ◌<◌, pos, List, [], ◌∷◌, length, map, Some, refl, ap, sym, subst, ◌∙◌, arith, inl, inr}
use Rattle.std.specs.Prelude.{nat_lt, int_lt}
use Rattle.std.proofs.lemmas.Bool.{cases_lt, lt-ltb, le-ltb}
use Rattle.rsp_numbers.specs.Numbers.{s32}
use Rattle.rsp_numbers.proofs.Signed.{s32_small}
use Rattle.rsp_decode.specs.declared.inst.Inst.TheVariants.{Immediate, BranchSign}
use Rattle.rsp_decode.specs.declared.vector.VectorMultiplyOp.TheVariants.{Vmulf, Vmacf}
use Rattle.rsp_decode.specs.declared.scalar.ImmediateOp.TheVariants.{Addiu}
use Rattle.rsp_decode.specs.declared.scalar.BranchSignOp.TheVariants.{Bgtz}
use Rattle.rsp_decode.specs.Table.Words.{inst_of, row_of}
use Rattle.rsp_multiply.specs.Laws.{SumsOfProducts}
use Rattle.rsp_scalar.specs.Registers.{register}
use Rattle.rsp_loadstore.specs.File.{vector, with_vector}
use Rattle.rsp_machine.specs.State.{State, IsState}
use Rattle.rsp_machine.specs.Step.{executed, instruction_effect, computes, jumps}
use Rattle.rsp_microcode.specs.Lanes.{lanes_at, with_lanes}
use Rattle.rsp_microcode.specs.Loads.{WholeLoad, load, loaded}
use Rattle.rsp_microcode.specs.Reads.{after_writes}
use Rattle.rsp_microcode.specs.Multiplies.{term}
use Rattle.rsp_microcode.specs.Pieces.{takes, sums, puts, rows, after_pieces}
use Rattle.rsp_microcode.specs.Loops.{Loop, loop_code, round_of, HandsOn}
use Rattle.rsp_microcode.specs.Buffers.{IsFilled}
use Rattle.rsp_routines.specs.MixLanes.{mix}
use Rattle.rsp_routines.specs.MixBuffers.{IsEntered, MixesAll}
use Rattle.rsp_lanes.proofs.Kit.{length_each}
use Rattle.rsp_microcode.proofs.Registers.{vector_reads, length-with_vector}
use Rattle.rsp_microcode.proofs.Listings.{listed}
use Rattle.rsp_microcode.proofs.Bytes.{has_bytes, lanes_are}
use Rattle.rsp_microcode.proofs.Buffers.{filled_none, filled_one, filled_spares}
use Rattle.rsp_microcode.proofs.Loops.{loops}
use Rattle.rsp_routines.proofs.MixLanesRuns.{mixed_lanes}

abbrev loads : List WholeLoad
loads = load 1 0 1 ∷ load 2 0 2 ∷ []

abbrev loop : Loop
loop = record {
  words = 0xc8212000 ∷ 0xc8422000 ∷ 0x4b030900 ∷ 0x4b231108 ∷ 0xe8642000 ∷ 0x2484fff8 ∷ 0x24210010 ∷ 0x24420010 ∷ 0x1c80fff7 ∷ 0x24630010 ∷ [];
  pieces = takes loads ∷ sums (term Vmulf 4 1 3 8 ∷ term Vmacf 4 2 3 9 ∷ []) ∷ puts 4 0 3
      ∷ rows (Immediate Addiu 4 4 0xfff8 ∷ Immediate Addiu 1 1 16 ∷ Immediate Addiu 2 2 16 ∷ []) ∷ [];
  branch = BranchSign Bgtz 4 0xfff7;
  slot = Immediate Addiu 3 3 16;
}

decoded : map inst_of loop.words ≡ map Some (loop_code loop)
unfolding inst_of row_of
decoded = refl

-- the mix of two vectors, and what holds after k rounds
abbrev mixture : State → ℕ → ℕ → ℕ → List ℕ
mixture s a b k = mix (lanes_at s.dmem (a + 16 * k)) (lanes_at s.dmem (b + 16 * k)) (vector s.vectors 3)

record Holds (s : State) (a b c n k : ℕ) (t : State) : Type 0 where
  one : register t.registers 1 ≡ a + 16 * k
  two : register t.registers 2 ≡ b + 16 * k
  three : register t.registers 3 ≡ c + 16 * k
  four : register t.registers 4 + 8 * k ≡ 8 * n
  filled : IsFilled (mixture s a b) s.dmem t.dmem c k

-- the scalar registers after a round, and the one that the branch reads
counted : (t : State) → length t.registers ≡ 32 →
    let r = t.registers in
    let q = (round_of loop t).registers in
    (register q 1 ≡ (register r 1 + 16) % 2 ^ 32) × (register q 2 ≡ (register r 2 + 16) % 2 ^ 32) × (register q 3 ≡ (register r 3 + 16) % 2 ^ 32)
    × (register q 4 ≡ (register r 4 + 4294967288) % 2 ^ 32) × (register (after_pieces loop.pieces t).registers 4 ≡ (register r 4 + 4294967288) % 2 ^ 32)
unfolding executed instruction_effect computes jumps
counted t n =
    let e = listed t.registers n in
    let q = λ (i : ℕ) (r : List ℕ). register (round_of loop (record t { registers = r })).registers i in
    (ap (q 1) e, ap (q 2) e, ap (q 3) e, ap (q 4) e, ap (λ r. register (after_pieces loop.pieces (record t { registers = r })).registers 4) e)

-- what a round stores
stored : (t : State) → IsState t → (round_of loop t).dmem
    ≡ with_lanes t.dmem (register t.registers 3 + 16 * 0) (mix (lanes_at t.dmem (register t.registers 1 + 16 * 0)) (lanes_at t.dmem (register t.registers 2 + 16 * 0)) (vector t.vectors 3))
unfolding executed instruction_effect computes jumps
stored t is =
    let file = after_writes with_vector (loaded loads t.dmem t.registers) t.vectors in
    let read = λ (n : ℕ). vector_reads (loaded loads t.dmem t.registers) t.vectors n is.vectors.count refl in
    let v = λ (a : ℕ). lanes_are t.dmem a (has_bytes t.dmem is.dmem) in
    ap (with_lanes t.dmem (register t.registers 3 + 16 * 0)) (
    vector_reads ((4, _) ∷ (4, _) ∷ []) file 4 (length-with_vector _ 2 _ ∙ length-with_vector t.vectors 1 _ ∙ is.vectors.count) refl
    ∙ rw (read 1, read 2, read 3) (mixed_lanes _ _ _ (v _) (v _) (is.vectors.registers 3 (omega arith)))
    )

-- whether a round is left
more : (r n k : ℕ) → k < n → n < 257 → r + 8 * k ≡ 8 * n → int_lt (pos 0) (s32 ((r + 4294967288) % 2 ^ 32)) ≡ nat_lt (k + 1) n
more r n k h l e =
    let small : (r + 4294967288) % 2 ^ 32 < 2147483648 = omega arith in
    rw (s32_small ((r + 4294967288) % 2 ^ 32) small) (elim (cases_lt (k + 1) n) [
      | inl lt ↦ rw (lt-ltb (k + 1) n lt) (lt-ltb 0 ((r + 4294967288) % 2 ^ 32) (omega arith))
      | inr ge ↦ rw (le-ltb (k + 1) n ge) (le-ltb 0 ((r + 4294967288) % 2 ^ 32) (omega arith))
    ])

one_round : (s : State) (a b c n : ℕ) → IsEntered s a b c n → HandsOn loop s n (Holds s a b c n)
one_round s a b c n entered k t h is spares holds =
    let e1 = holds.one in
    let e2 = holds.two in
    let e3 = holds.three in
    let e4 = holds.four in
    let fa = entered.first_buffer in
    let fb = entered.second_buffer in
    let fc = entered.out_buffer in
    let ga = fa.aligned in
    let gb = fb.aligned in
    let gc = fc.aligned in
    let ia = fa.inside in
    let ib = fb.inside in
    let ic = fc.inside in
    let q = counted t is.registers.count in
    let one : lanes_at t.dmem (register t.registers 1 + 16 * 0) ≡ lanes_at s.dmem (a + 16 * k) = ap (lanes_at t.dmem) (omega arith) ∙ filled_spares _ _ _ c a n k fc fa entered.spares_first h holds.filled in
    let two : lanes_at t.dmem (register t.registers 2 + 16 * 0) ≡ lanes_at s.dmem (b + 16 * k) = ap (lanes_at t.dmem) (omega arith) ∙ filled_spares _ _ _ c b n k fc fb entered.spares_second h holds.filled in
    let at : register t.registers 3 + 16 * 0 ≡ c + 16 * k = omega arith in
    let volumes : vector t.vectors 3 ≡ vector s.vectors 3 = spares.vectors 3 refl in
    let memory : (round_of loop t).dmem ≡ with_lanes t.dmem (c + 16 * k) (mixture s a b k) = stored t is ∙ rw (one, two, at, volumes) refl in (
      ((omega arith, (omega arith, tt)), (omega arith, tt)),
      ap (λ x. int_lt (pos 0) (s32 x)) q.4 ∙ more (register t.registers 4) n k h (omega arith) e4,
      record {
        one = q.0 ∙ omega arith;
        two = q.1 ∙ omega arith;
        three = q.2 ∙ omega arith;
        four = let e = q.3 in omega arith;
        filled = subst (λ m. IsFilled (mixture s a b) s.dmem m c (k + 1)) (sym memory) (filled_one (mixture s a b) s.dmem t.dmem c n k fc h is.dmem.count (length_each _) holds.filled);
      },
    )

pub mixes_all : SumsOfProducts → MixesAll loop.words
mixes_all law s is at n entered =
    let r = s.registers in
    let a = register r 1 in
    let b = register r 2 in
    let c = register r 3 in
    let count = entered.count in
    let start : Holds s a b c n 0 s = record { one = omega arith; two = omega arith; three = omega arith; four = omega arith; filled = filled_none (mixture s a b) s.dmem c } in
    let end = loops law loop decoded refl s is at n entered.some (Holds s a b c n) start (one_round s a b c n entered) in
    record { filled = end.holds.filled; others = end.others (1 ∷ 2 ∷ 3 ∷ 4 ∷ []) (1 ∷ 2 ∷ 4 ∷ []) refl }
