-- Bytes copied in DMEM.
use Rattle.std.proofs.Common.{◌≡◌, ℕ, ◌+◌, ◌*◌, ◌/◌, ◌%◌, ◌^◌, pos, List, [], ◌∷◌, length, map, take, Some, refl, ap, sym, subst, ◌∙◌, arith}
use Rattle.std.specs.Prelude.{int_lt}
use Rattle.rsp_numbers.specs.Numbers.{s32}
use Rattle.rsp_decode.specs.declared.inst.Inst.TheVariants.{Immediate, BranchSign}
use Rattle.rsp_decode.specs.declared.scalar.ImmediateOp.TheVariants.{Addiu}
use Rattle.rsp_decode.specs.declared.scalar.BranchSignOp.TheVariants.{Bgtz}
use Rattle.rsp_decode.specs.Table.Words.{inst_of, row_of}
use Rattle.rsp_multiply.specs.Laws.{SumsOfProducts}
use Rattle.rsp_scalar.specs.Registers.{register}
use Rattle.rsp_loadstore.specs.File.{vector, with_vector}
use Rattle.rsp_machine.specs.State.{State}
use Rattle.rsp_machine.specs.Step.{executed, instruction_effect, computes, jumps}
use Rattle.rsp_machine.specs.Laws.{steps_of}
use Rattle.rsp_microcode.specs.Lanes.{lanes_at, with_lanes}
use Rattle.rsp_memory.specs.Memory.{byte_at}
use Rattle.rsp_microcode.specs.Reads.{after_writes}
use Rattle.rsp_microcode.specs.Loads.{WholeLoad, load, loaded}
use Rattle.rsp_microcode.specs.Pieces.{takes, puts, rows, after_pieces}
use Rattle.rsp_microcode.specs.Loops.{Loop, loop_code, round_of, HandsOn}
use Rattle.rsp_microcode.specs.Buffers.{IsFilled}
use Rattle.rsp_lanes.proofs.Kit.{length_each}
use Rattle.rsp_microcode.proofs.Registers.{vector_reads}
use Rattle.rsp_microcode.proofs.Listings.{listed, listing}
use Rattle.rsp_microcode.proofs.Bytes.{has_bytes}
use Rattle.rsp_microcode.proofs.Buffers.{filled_none, filled_one, filled_spares}
use Rattle.rsp_microcode.proofs.Joins.{ran_others}
use Rattle.rsp_routines.specs.Areas.{vectors_for}
use Rattle.rsp_routines.specs.Copy.{IsCopy, Copies, CopiesBytes}
use Rattle.rsp_routines.proofs.Bytes.{lane_byte}
use Rattle.rsp_routines.proofs.Tailed.{tailed_words, tailed, more, buffer_of, spares_of}

abbrev loads : List WholeLoad
loads = load 1 0 1 ∷ []

abbrev loop : Loop
loop = record {
  words = 0xc8212000 ∷ 0x2484fff0 ∷ 0x24210010 ∷ 0xe8612000 ∷ 0x1c80fffb ∷ 0x24630010 ∷ [];
  pieces = takes loads ∷ rows (Immediate Addiu 4 4 0xfff0 ∷ Immediate Addiu 1 1 16 ∷ []) ∷ puts 1 0 3 ∷ [];
  branch = BranchSign Bgtz 4 0xfffb;
  slot = Immediate Addiu 3 3 16;
}

decoded : map inst_of loop.words ≡ map Some (loop_code loop)
unfolding inst_of row_of
decoded = refl

-- vector k of the bytes, and what holds after k rounds from u
abbrev piece : State → ℕ → List ℕ
piece s k = lanes_at s.dmem (register s.registers 1 + 16 * k)

record Holds (s u : State) (k : ℕ) (t : State) : Type 0 where
  one : register t.registers 1 ≡ register s.registers 1 + 16 * k
  three : register t.registers 3 ≡ register s.registers 3 + 16 * k
  four : (register t.registers 4 + 16 * k) % 2 ^ 32 ≡ register s.registers 4
  filled : IsFilled (piece s) s.dmem t.dmem (register s.registers 3) k

-- the scalar registers after a round, the one that the branch reads, the address of the store, and what is stored
counted : (t : State) → length t.registers ≡ 32 →
    let r = t.registers in
    let q = (round_of loop t).registers in
    (register q 1 ≡ (register r 1 + 16) % 2 ^ 32) × (register q 3 ≡ (register r 3 + 16) % 2 ^ 32) × (register q 4 ≡ (register r 4 + 4294967280) % 2 ^ 32)
    × (register (after_pieces loop.pieces t).registers 4 ≡ (register r 4 + 4294967280) % 2 ^ 32)
    × (register (after_pieces (take 2 loop.pieces) t).registers 3 ≡ register r 3)
    × ((round_of loop t).dmem ≡ with_lanes t.dmem (register r 3 + 16 * 0) (vector (after_writes with_vector (loaded loads t.dmem (listing r)) t.vectors) 1))
unfolding executed instruction_effect computes jumps
counted t n =
    let e = listed t.registers n in
    let q = λ (i : ℕ) (r : List ℕ). register (round_of loop (record t { registers = r })).registers i in (
      ap (q 1) e,
      ap (q 3) e,
      ap (q 4) e,
      ap (λ (r : List ℕ). register (after_pieces loop.pieces (record t { registers = r })).registers 4) e,
      ap (λ (r : List ℕ). register (after_pieces (take 2 loop.pieces) (record t { registers = r })).registers 3) e,
      ap (λ (r : List ℕ). (round_of loop (record t { registers = r })).dmem) e,
    )

piece_length : (s : State) (k : ℕ) → length (piece s k) ≡ 8
unfolding lanes_at
piece_length s k = length_each _

one_round : (s u : State) → IsCopy (register s.registers 1) (register s.registers 3) (register s.registers 4) → HandsOn loop u (vectors_for (register s.registers 4)) (Holds s u)
one_round s u entered k t h is spares holds =
    let b = register s.registers 1 in
    let c = register s.registers 3 in
    let n = register s.registers 4 in
    let e1 = holds.one in
    let e3 = holds.three in
    let e4 = holds.four in
    let from = buffer_of b n entered.source in
    let to = buffer_of c n entered.target in
    let fa = from.aligned in
    let ta = to.aligned in
    let fi = from.inside in
    let ti = to.inside in
    let most = entered.source.ends in
    let q = counted t is.registers.count in
    let at : register t.registers 3 + 16 * 0 ≡ c + 16 * k = omega arith in
    let read : lanes_at t.dmem (register t.registers 1 + 16 * 0) ≡ piece s k =
    ap (lanes_at t.dmem) (omega arith) ∙ filled_spares _ _ _ c b (vectors_for n) k to from (spares_of c b n entered.target entered.source entered.spares) h holds.filled in
    let memory : (round_of loop t).dmem ≡ with_lanes t.dmem (c + 16 * k) (piece s k) =
    q.5 ∙ ap (with_lanes t.dmem (register t.registers 3 + 16 * 0)) (vector_reads (loaded loads t.dmem (listing t.registers)) t.vectors 1 is.vectors.count refl ∙ read) ∙ rw at refl in (
      ((omega arith, tt), (ap (λ x. x % 16) q.4 ∙ omega arith, tt)),
      ap (λ x. int_lt (pos 0) (s32 x)) q.3 ∙ more (register t.registers 4) n k h (omega arith) (is.registers.words 4) e4,
      record {
        one = q.0 ∙ omega arith;
        three = q.1 ∙ omega arith;
        four = let e = q.2 in omega arith;
        filled = subst (λ m. IsFilled (piece s) s.dmem m c (k + 1)) (sym memory) (filled_one (piece s) s.dmem t.dmem c (vectors_for n) k to h is.dmem.count (piece_length s k) holds.filled);
      },
    )

pub copies : SumsOfProducts → CopiesBytes (tailed_words loop)
copies law s is at entered =
    let r = s.registers in
    let n = register r 4 in
    let t = steps_of (2 + (vectors_for n * 6 + 1)) s in
    let end = tailed law loop decoded refl refl refl (piece s) s is at entered.target (Holds s) (λ u ok b.
    let same = b.ran.spares in
    let e1 : register u.registers 1 ≡ register r 1 = same.scalars 1 refl in
    let e3 : register u.registers 3 ≡ register r 3 = same.scalars 3 refl in
    let e4 : register u.registers 4 ≡ register r 4 = same.scalars 4 refl in
    let small = is.registers.words 4 in
    record {
      start = record { one = omega arith; three = omega arith; four = omega arith; filled = subst (λ m. IsFilled (piece s) s.dmem m (register r 3) 0) (sym b.memory) (filled_none (piece s) s.dmem (register r 3)) };
      each = one_round s u entered;
      filled = λ v holds. holds.filled;
    }) in
    let done : Copies (tailed_words loop) s t (register r 1) (register r 3) n = record {
      bytes = λ i h. end.bytes i h ∙ lane_byte s.dmem (register r 1 + 16 * (i / 16)) (i % 16) (has_bytes s.dmem is.dmem) (omega arith) ∙ ap (byte_at s.dmem) (omega arith);
      outside = end.outside;
      others = ran_others (tailed_words loop) _ s t is at.next end.ran (1 ∷ 3 ∷ 4 ∷ 5 ∷ []) (1 ∷ 30 ∷ []) refl;
    } in
    subst (λ k. Copies (tailed_words loop) s (steps_of k s) (register r 1) (register r 3) n) (omega arith) done
