-- Bytes of DMEM filled.
use Rattle.std.proofs.Common.{◌≡◌, ℕ, ◌+◌, ◌*◌, ◌%◌, ◌^◌, pos, List, [], ◌∷◌, length, map, Some, refl, ap, sym, subst, ◌∙◌, arith}
use Rattle.std.specs.Prelude.{int_lt}
use Rattle.rsp_numbers.specs.Numbers.{s32}
use Rattle.rsp_decode.specs.declared.inst.Inst.TheVariants.{Immediate, BranchSign}
use Rattle.rsp_decode.specs.declared.scalar.ImmediateOp.TheVariants.{Addiu}
use Rattle.rsp_decode.specs.declared.scalar.BranchSignOp.TheVariants.{Bgtz}
use Rattle.rsp_decode.specs.Table.Words.{inst_of, row_of}
use Rattle.rsp_multiply.specs.Laws.{SumsOfProducts}
use Rattle.rsp_scalar.specs.Registers.{register}
use Rattle.rsp_loadstore.specs.File.{vector}
use Rattle.rsp_machine.specs.State.{State, IsState}
use Rattle.rsp_machine.specs.Step.{executed, instruction_effect, computes, jumps}
use Rattle.rsp_machine.specs.Laws.{steps_of}
use Rattle.rsp_microcode.specs.Lanes.{with_lanes}
use Rattle.rsp_microcode.specs.Pieces.{puts, rows, after_pieces}
use Rattle.rsp_microcode.specs.Loops.{Loop, loop_code, round_of, HandsOn}
use Rattle.rsp_microcode.specs.Buffers.{IsFilled}
use Rattle.rsp_microcode.proofs.Listings.{listed}
use Rattle.rsp_microcode.proofs.Buffers.{filled_none, filled_one}
use Rattle.rsp_microcode.proofs.Joins.{ran_others}
use Rattle.rsp_routines.specs.Areas.{IsArea, vectors_for}
use Rattle.rsp_routines.specs.Fill.{Fills, FillsBytes}
use Rattle.rsp_routines.proofs.Tailed.{tailed_words, tailed, more, buffer_of}

abbrev loop : Loop
loop = record {
  words = 0xe8612000 ∷ 0x2484fff0 ∷ 0x1c80fffd ∷ 0x24630010 ∷ [];
  pieces = puts 1 0 3 ∷ rows (Immediate Addiu 4 4 0xfff0 ∷ []) ∷ [];
  branch = BranchSign Bgtz 4 0xfffd;
  slot = Immediate Addiu 3 3 16;
}

decoded : map inst_of loop.words ≡ map Some (loop_code loop)
unfolding inst_of row_of
decoded = refl

-- what holds after k rounds
record Holds (s : State) (k : ℕ) (t : State) : Type 0 where
  three : register t.registers 3 ≡ register s.registers 3 + 16 * k
  four : (register t.registers 4 + 16 * k) % 2 ^ 32 ≡ register s.registers 4
  filled : IsFilled (λ _. vector s.vectors 1) s.dmem t.dmem (register s.registers 3) k

-- the scalar registers after a round, the one that the branch reads, and DMEM
counted : (t : State) → length t.registers ≡ 32 →
    let r = t.registers in
    let q = (round_of loop t).registers in
    (register q 3 ≡ (register r 3 + 16) % 2 ^ 32) × (register q 4 ≡ (register r 4 + 4294967280) % 2 ^ 32)
    × (register (after_pieces loop.pieces t).registers 4 ≡ (register r 4 + 4294967280) % 2 ^ 32)
    × ((round_of loop t).dmem ≡ with_lanes t.dmem (register r 3 + 16 * 0) (vector t.vectors 1))
unfolding executed instruction_effect computes jumps
counted t n =
    let e = listed t.registers n in
    let q = λ (i : ℕ) (r : List ℕ). register (round_of loop (record t { registers = r })).registers i in
    (ap (q 3) e, ap (q 4) e, ap (λ (r : List ℕ). register (after_pieces loop.pieces (record t { registers = r })).registers 4) e, refl)

one_round : (s u : State) → IsState s → IsArea (register s.registers 3) (register s.registers 4) → vector u.vectors 1 ≡ vector s.vectors 1
    → HandsOn loop u (vectors_for (register s.registers 4)) (Holds s)
one_round s u ok area kept k t h is spares holds =
    let c = register s.registers 3 in
    let n = register s.registers 4 in
    let e3 = holds.three in
    let e4 = holds.four in
    let to = buffer_of c n area in
    let ta = to.aligned in
    let ti = to.inside in
    let most = area.ends in
    let q = counted t is.registers.count in
    let at : register t.registers 3 + 16 * 0 ≡ c + 16 * k = omega arith in
    let bytes : vector t.vectors 1 ≡ vector s.vectors 1 = spares.vectors 1 refl ∙ kept in
    let memory : (round_of loop t).dmem ≡ with_lanes t.dmem (c + 16 * k) (vector s.vectors 1) = q.3 ∙ rw (at, bytes) refl in (
      (omega arith, tt),
      ap (λ x. int_lt (pos 0) (s32 x)) q.2 ∙ more (register t.registers 4) n k h (omega arith) (is.registers.words 4) e4,
      record {
        three = q.0 ∙ omega arith;
        four = let e = q.1 in omega arith;
        filled = subst (λ m. IsFilled (λ _. vector s.vectors 1) s.dmem m c (k + 1)) (sym memory)
            (filled_one (λ _. vector s.vectors 1) s.dmem t.dmem c (vectors_for n) k to h is.dmem.count (ok.vectors.registers 1 (omega arith)).0 holds.filled);
      },
    )

pub fills : SumsOfProducts → FillsBytes (tailed_words loop)
fills law s is at area =
    let r = s.registers in
    let n = register r 4 in
    let v = vector s.vectors 1 in
    let t = steps_of (2 + (vectors_for n * 4 + 1)) s in
    let end = tailed law loop decoded refl refl refl (λ _. v) s is at area (λ _. Holds s) (λ u ok b.
    let same = b.ran.spares in
    let e3 : register u.registers 3 ≡ register r 3 = same.scalars 3 refl in
    let e4 : register u.registers 4 ≡ register r 4 = same.scalars 4 refl in
    let small = is.registers.words 4 in
    record {
      start = record { three = omega arith; four = omega arith; filled = subst (λ m. IsFilled (λ _. v) s.dmem m (register r 3) 0) (sym b.memory) (filled_none (λ _. v) s.dmem (register r 3)) };
      each = one_round s u is area (same.vectors 1 refl);
      filled = λ w holds. holds.filled;
    }) in
    let done : Fills (tailed_words loop) s t (register r 3) n = record {
      bytes = end.bytes;
      outside = end.outside;
      others = ran_others (tailed_words loop) _ s t is at.next end.ran (3 ∷ 4 ∷ 5 ∷ []) (30 ∷ []) refl;
    } in
    subst (λ k. Fills (tailed_words loop) s (steps_of k s) (register r 3) n) (omega arith) done
