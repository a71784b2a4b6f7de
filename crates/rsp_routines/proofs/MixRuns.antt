-- A sound mixed into another.
use Rattle.std.proofs.Common.{◌≡◌, ℕ, ◌+◌, ◌-◌, ◌*◌, ◌/◌, ◌%◌, ◌^◌, ◌<◌, ℤ, pos, negsuc, ◌+ℤ◌, ◌*ℤ◌, List, [], ◌∷◌, length, get_or, map, take, Some, refl, ap, sym, subst, ◌∙◌, arith}
use Rattle.std.specs.Prelude.{int_lt, ◌≤ℤ◌}
use Rattle.std.proofs.lemmas.Int.{ints}
use Rattle.rsp_numbers.specs.Numbers.{s16, s32, s48, sixteen_bits, clamp16, floor_div}
use Rattle.rsp_numbers.proofs.Wrap.{s48_is}
use Rattle.rsp_decode.specs.declared.inst.Inst.TheVariants.{Immediate, BranchSign}
use Rattle.rsp_decode.specs.declared.vector.VectorMultiplyOp.TheVariants.{Vmulf, Vmadh}
use Rattle.rsp_decode.specs.declared.scalar.ImmediateOp.TheVariants.{Addiu}
use Rattle.rsp_decode.specs.declared.scalar.BranchSignOp.TheVariants.{Bgtz}
use Rattle.rsp_decode.specs.Table.Words.{inst_of, row_of}
use Rattle.rsp_memory.specs.Memory.{half_at}
use Rattle.rsp_lanes.specs.Lanes.{each_lane, selected, IsVector}
use Rattle.rsp_lanes.proofs.Kit.{lane_of, each_same, length_each}
use Rattle.rsp_acc.specs.Parts.{clamp_of}
use Rattle.rsp_acc.specs.declared.parts.Clamp.TheVariants.{Signed}
use Rattle.rsp_multiply.specs.Laws.{SumsOfProducts}
use Rattle.rsp_multiply.specs.MultiplyRules.{rounded, signed_times_65536}
use Rattle.rsp_multiply.proofs.Signs.{signed}
use Rattle.rsp_scalar.specs.Registers.{register}
use Rattle.rsp_loadstore.specs.File.{vector, with_vector}
use Rattle.rsp_machine.specs.State.{State, IsState}
use Rattle.rsp_machine.specs.Step.{executed, instruction_effect, computes, jumps}
use Rattle.rsp_machine.specs.Laws.{steps_of}
use Rattle.rsp_microcode.specs.Lanes.{lanes_at, with_lanes}
use Rattle.rsp_microcode.specs.Reads.{after_writes}
use Rattle.rsp_microcode.specs.Loads.{WholeLoad, load, loaded}
use Rattle.rsp_microcode.specs.Multiplies.{Term, term}
use Rattle.rsp_microcode.specs.Pieces.{takes, sums, puts, rows, after_pieces}
use Rattle.rsp_microcode.specs.Loops.{Loop, loop_code, round_of, HandsOn}
use Rattle.rsp_microcode.specs.Buffers.{IsFilled}
use Rattle.rsp_microcode.proofs.Registers.{vector_reads, length-with_vector}
use Rattle.rsp_microcode.proofs.Listings.{listed, listing}
use Rattle.rsp_microcode.proofs.Bytes.{has_bytes, lanes_are}
use Rattle.rsp_microcode.proofs.Buffers.{filled_none, filled_one, filled_spares}
use Rattle.rsp_microcode.proofs.Joins.{ran_others}
use Rattle.rsp_routines.specs.Areas.{vectors_for}
use Rattle.rsp_routines.specs.Mix.{sample, IsMix, MixesIn, MixesSound}
use Rattle.rsp_routines.proofs.Bytes.{lane_half}
use Rattle.rsp_routines.proofs.Tailed.{tailed_words, tailed, more, buffer_of, spares_of}

abbrev loads : List WholeLoad
loads = load 1 0 1 ∷ load 2 0 2 ∷ []

abbrev terms : List Term
terms = term Vmulf 4 1 3 8 ∷ term Vmadh 4 2 3 9 ∷ []

abbrev loop : Loop
loop = record {
  words = 0xc8212000 ∷ 0xc8422000 ∷ 0x2484fff0 ∷ 0x24210010 ∷ 0x4b030900 ∷ 0x4b23110f ∷ 0x24420010 ∷ 0xe8642000 ∷ 0x1c80fff7 ∷ 0x24630010 ∷ [];
  pieces = takes loads ∷ rows (Immediate Addiu 4 4 0xfff0 ∷ Immediate Addiu 1 1 16 ∷ []) ∷ sums terms ∷ rows (Immediate Addiu 2 2 16 ∷ []) ∷ puts 4 0 3 ∷ [];
  branch = BranchSign Bgtz 4 0xfff7;
  slot = Immediate Addiu 3 3 16;
}

decoded : map inst_of loop.words ≡ map Some (loop_code loop)
unfolding inst_of row_of
decoded = refl

-- eight samples: the addends so far, and the sum, which never wraps
abbrev so_far : List ℕ → List ℕ → List ℕ → ℕ → ℤ
so_far a b v i = (pos 0 +ℤ rounded (get_or a i 0) (get_or (selected v 8) i 0)) +ℤ signed_times_65536 (get_or b i 0) (get_or (selected v 9) i 0)

picked : (v : List ℕ) (i : ℕ) → i < 8 → (get_or (selected v 8) i 0 ≡ get_or v 0 0) × (get_or (selected v 9) i 0 ≡ get_or v 1 0)
picked v i h = (lane_of 0 (λ _. get_or v 0 0) (selected v 8) refl i h, lane_of 0 (λ _. get_or v 1 0) (selected v 9) refl i h)

in_range : (x y : ℤ) → negsuc (2 ^ 30 - 1) ≤ℤ x → x ≤ℤ pos (2 ^ 30) → negsuc (2 ^ 30 - 1) ≤ℤ y → y ≤ℤ pos (2 ^ 30)
    → s48 ((pos 0 +ℤ (pos 2 *ℤ x +ℤ pos 32768)) +ℤ y *ℤ pos 65536) ≡ (pos 2 *ℤ x +ℤ pos 32768) +ℤ pos 65536 *ℤ y
in_range x y a b c d = s48_is _ _ 0 0 (omega (arith, ints)) (omega (arith, ints)) (omega (arith, ints))

lane : (a b v : List ℕ) → IsVector a → IsVector b → IsVector v → (i : ℕ) → i < 8 → clamp_of Signed (s48 (so_far a b v i)) ≡ sample (get_or a i 0) (get_or b i 0) v
unfolding clamp_of
lane a b v is_a is_b is_v i h =
    let p = (signed (get_or a i 0) (get_or v 0 0) (is_a.1 i) (is_v.1 0)).1 in
    let q = (signed (get_or b i 0) (get_or v 1 0) (is_b.1 i) (is_v.1 1)).1 in
    rw ((picked v i h).0, (picked v i h).1) (ap (λ z. sixteen_bits (clamp16 (floor_div z 65536))) (in_range (s16 (get_or a i 0) *ℤ s16 (get_or v 0 0)) (s16 (get_or b i 0) *ℤ s16 (get_or v 1 0)) p.low p.high q.low q.high))

abbrev samples : List ℕ → List ℕ → List ℕ → List ℕ
samples a b v = each_lane (λ i. sample (get_or a i 0) (get_or b i 0) v)

all_lanes : (a b v : List ℕ) → IsVector a → IsVector b → IsVector v → each_lane (λ i. clamp_of Signed (s48 (so_far a b v i))) ≡ samples a b v
all_lanes a b v is_a is_b is_v = each_same _ _ (lane a b v is_a is_b is_v)

-- vector k of the mix, and what holds after k rounds
abbrev mixture : State → ℕ → List ℕ
mixture s k = samples (lanes_at s.dmem (register s.registers 1 + 16 * k)) (lanes_at s.dmem (register s.registers 2 + 16 * k)) (vector s.vectors 3)

record Holds (s : State) (k : ℕ) (t : State) : Type 0 where
  one : register t.registers 1 ≡ register s.registers 1 + 16 * k
  two : register t.registers 2 ≡ register s.registers 2 + 16 * k
  three : register t.registers 3 ≡ register s.registers 3 + 16 * k
  four : (register t.registers 4 + 16 * k) % 2 ^ 32 ≡ register s.registers 4
  filled : IsFilled (mixture s) s.dmem t.dmem (register s.registers 3) k

-- the scalar registers after a round, the one that the branch reads, and the address of the store
counted : (t : State) → length t.registers ≡ 32 →
    let r = t.registers in
    let q = (round_of loop t).registers in
    (register q 1 ≡ (register r 1 + 16) % 2 ^ 32) × (register q 2 ≡ (register r 2 + 16) % 2 ^ 32) × (register q 3 ≡ (register r 3 + 16) % 2 ^ 32)
    × (register q 4 ≡ (register r 4 + 4294967280) % 2 ^ 32)
    × (register (after_pieces loop.pieces t).registers 4 ≡ (register r 4 + 4294967280) % 2 ^ 32)
    × (register (after_pieces (take 4 loop.pieces) t).registers 3 ≡ register r 3)
unfolding executed instruction_effect computes jumps
counted t n =
    let e = listed t.registers n in
    let q = λ (i : ℕ) (r : List ℕ). register (round_of loop (record t { registers = r })).registers i in (
      ap (q 1) e,
      ap (q 2) e,
      ap (q 3) e,
      ap (q 4) e,
      ap (λ (r : List ℕ). register (after_pieces loop.pieces (record t { registers = r })).registers 4) e,
      ap (λ (r : List ℕ). register (after_pieces (take 4 loop.pieces) (record t { registers = r })).registers 3) e,
    )

-- what a round stores
stored : (t : State) → IsState t → (round_of loop t).dmem
    ≡ with_lanes t.dmem (register t.registers 3 + 16 * 0) (samples (lanes_at t.dmem (register t.registers 1 + 16 * 0)) (lanes_at t.dmem (register t.registers 2 + 16 * 0)) (vector t.vectors 3))
unfolding executed instruction_effect computes jumps
stored t is =
    let r = t.registers in
    let writes = loaded loads t.dmem (listing r) in
    let file = after_writes with_vector writes t.vectors in
    let read = λ (n : ℕ). vector_reads writes t.vectors n is.vectors.count refl in
    let v = λ (a : ℕ). lanes_are t.dmem a (has_bytes t.dmem is.dmem) in
    ap (λ (r : List ℕ). (round_of loop (record t { registers = r })).dmem) (listed r is.registers.count)
    ∙ ap (with_lanes t.dmem (register r 3 + 16 * 0)) (
    vector_reads ((4, _) ∷ (4, _) ∷ []) file 4 (length-with_vector _ 2 _ ∙ length-with_vector t.vectors 1 _ ∙ is.vectors.count) refl
    ∙ rw (read 1, read 2, read 3) (all_lanes _ _ _ (v _) (v _) (is.vectors.registers 3 (omega arith)))
    )

one_round : (s u : State) → IsMix (register s.registers 1) (register s.registers 2) (register s.registers 3) (register s.registers 4) → vector u.vectors 3 ≡ vector s.vectors 3
    → HandsOn loop u (vectors_for (register s.registers 4)) (Holds s)
one_round s u entered volumes k t h is spares holds =
    let a = register s.registers 1 in
    let b = register s.registers 2 in
    let c = register s.registers 3 in
    let n = register s.registers 4 in
    let e1 = holds.one in
    let e2 = holds.two in
    let e3 = holds.three in
    let e4 = holds.four in
    let first = buffer_of a n entered.first_area in
    let second = buffer_of b n entered.second_area in
    let to = buffer_of c n entered.target in
    let fa = first.aligned in
    let sa = second.aligned in
    let ta = to.aligned in
    let fi = first.inside in
    let si = second.inside in
    let ti = to.inside in
    let most = entered.target.ends in
    let q = counted t is.registers.count in
    let one : lanes_at t.dmem (register t.registers 1 + 16 * 0) ≡ lanes_at s.dmem (a + 16 * k) =
    ap (lanes_at t.dmem) (omega arith) ∙ filled_spares _ _ _ c a (vectors_for n) k to first (spares_of c a n entered.target entered.first_area entered.spares_first) h holds.filled in
    let two : lanes_at t.dmem (register t.registers 2 + 16 * 0) ≡ lanes_at s.dmem (b + 16 * k) =
    ap (lanes_at t.dmem) (omega arith) ∙ filled_spares _ _ _ c b (vectors_for n) k to second (spares_of c b n entered.target entered.second_area entered.spares_second) h holds.filled in
    let at : register t.registers 3 + 16 * 0 ≡ c + 16 * k = omega arith in
    let same : vector t.vectors 3 ≡ vector s.vectors 3 = spares.vectors 3 refl ∙ volumes in
    let memory : (round_of loop t).dmem ≡ with_lanes t.dmem (c + 16 * k) (mixture s k) = stored t is ∙ rw (one, two, at, same) refl in (
      ((omega arith, (omega arith, tt)), (ap (λ x. x % 16) q.5 ∙ omega arith, tt)),
      ap (λ x. int_lt (pos 0) (s32 x)) q.4 ∙ more (register t.registers 4) n k h (omega arith) (is.registers.words 4) e4,
      record {
        one = q.0 ∙ omega arith;
        two = q.1 ∙ omega arith;
        three = q.2 ∙ omega arith;
        four = let e = q.3 in omega arith;
        filled = subst (λ m. IsFilled (mixture s) s.dmem m c (k + 1)) (sym memory) (filled_one (mixture s) s.dmem t.dmem c (vectors_for n) k to h is.dmem.count (length_each _) holds.filled);
      },
    )

-- one sample of the mix
one_sample : (s : State) (i : ℕ) → get_or (mixture s (i / 8)) (i % 8) 0 ≡ sample (half_at s.dmem (register s.registers 1 + 2 * i)) (half_at s.dmem (register s.registers 2 + 2 * i)) (vector s.vectors 3)
one_sample s i =
    let at = λ (a : ℕ). lane_half s.dmem (a + 16 * (i / 8)) (i % 8) (omega arith) ∙ ap (half_at s.dmem) (same a i) in
    lane_of 0 _ (mixture s (i / 8)) refl (i % 8) (omega arith) ∙ rw (at (register s.registers 1), at (register s.registers 2)) refl
  where
    same : (a i : ℕ) → a + 16 * (i / 8) + 2 * (i % 8) ≡ a + 2 * i
    same a i = omega arith

pub mixes_sound : SumsOfProducts → MixesSound (tailed_words loop)
mixes_sound law s is at entered =
    let r = s.registers in
    let n = register r 4 in
    let t = steps_of (2 + (vectors_for n * 10 + 1)) s in
    let end = tailed law loop decoded refl refl refl (mixture s) s is at entered.target (λ _. Holds s) (λ u ok b.
    let same = b.ran.spares in
    let e1 : register u.registers 1 ≡ register r 1 = same.scalars 1 refl in
    let e2 : register u.registers 2 ≡ register r 2 = same.scalars 2 refl in
    let e3 : register u.registers 3 ≡ register r 3 = same.scalars 3 refl in
    let e4 : register u.registers 4 ≡ register r 4 = same.scalars 4 refl in
    let small = is.registers.words 4 in
    record {
      start = record {
        one = omega arith;
        two = omega arith;
        three = omega arith;
        four = omega arith;
        filled = subst (λ m. IsFilled (mixture s) s.dmem m (register r 3) 0) (sym b.memory) (filled_none (mixture s) s.dmem (register r 3));
      };
      each = one_round s u entered (same.vectors 3 refl);
      filled = λ w holds. holds.filled;
    }) in
    let done : MixesIn (tailed_words loop) s t (register r 1) (register r 2) (register r 3) n = record {
      samples = λ i h. end.halves i h ∙ one_sample s i;
      outside = end.outside;
      others = ran_others (tailed_words loop) _ s t is at.next end.ran (1 ∷ 2 ∷ 3 ∷ 4 ∷ 5 ∷ []) (1 ∷ 2 ∷ 4 ∷ 30 ∷ []) refl;
    } in
    subst (λ k. MixesIn (tailed_words loop) s (steps_of k s) (register r 1) (register r 2) (register r 3) n) (omega arith) done
