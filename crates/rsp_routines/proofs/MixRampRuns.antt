-- A sound mixed into another, at volumes that grow.
use Rattle.std.proofs.Common.{◌≡◌, ℕ, suc, ◌+◌, ◌-◌, ◌*◌, ◌/◌, ◌%◌, ◌^◌, ◌<◌, ℤ, pos, negsuc, ◌+ℤ◌, ◌*ℤ◌, List, [], ◌∷◌, length, get_or, map, take, Some, refl, ap, sym, subst, ◌∙◌, arith}
use Rattle.std.specs.Prelude.{int_lt, ◌≤ℤ◌}
use Rattle.std.proofs.lemmas.Int.{ints}
use Rattle.rsp_numbers.specs.Numbers.{s16, s32, s48, sixteen_bits, clamp16, floor_div}
use Rattle.rsp_numbers.proofs.Wrap.{s48_is}
use Rattle.rsp_decode.specs.declared.inst.Inst.TheVariants.{Immediate, BranchSign, VectorAdd}
use Rattle.rsp_decode.specs.declared.vector.VectorAddOp.TheVariants.{Vadd, Vaddc}
use Rattle.rsp_decode.specs.declared.vector.VectorMultiplyOp.TheVariants.{Vmulf, Vmadh}
use Rattle.rsp_decode.specs.declared.scalar.ImmediateOp.TheVariants.{Addiu}
use Rattle.rsp_decode.specs.declared.scalar.BranchSignOp.TheVariants.{Bgtz}
use Rattle.rsp_decode.specs.Table.Words.{inst_of, row_of}
use Rattle.rsp_memory.specs.Memory.{half_at}
use Rattle.rsp_lanes.specs.Lanes.{each_lane, selected, IsVector}
use Rattle.rsp_lanes.specs.Outcome.{results_of, flags_after}
use Rattle.rsp_lanes.specs.declared.flags.Flags.{Flags}
use Rattle.rsp_compare.specs.Adds.{vadd, vaddc}
use Rattle.rsp_lanes.proofs.Kit.{lane_of, each_same, length_each}
use Rattle.rsp_acc.specs.Parts.{clamp_of}
use Rattle.rsp_acc.specs.declared.parts.Clamp.TheVariants.{Signed}
use Rattle.rsp_multiply.specs.Laws.{SumsOfProducts}
use Rattle.rsp_multiply.specs.MultiplyRules.{rounded, signed_times_65536}
use Rattle.rsp_multiply.proofs.Signs.{signed}
use Rattle.rsp_scalar.specs.Registers.{register}
use Rattle.rsp_loadstore.specs.File.{vector, with_vector}
use Rattle.rsp_machine.specs.State.{State, IsState}
use Rattle.rsp_machine.specs.Step.{executed, instruction_effect, computes, jumps}
use Rattle.rsp_machine.specs.Vector.{ruled}
use Rattle.rsp_machine.specs.Laws.{steps_of}
use Rattle.rsp_microcode.specs.Lanes.{lanes_at, with_lanes}
use Rattle.rsp_microcode.specs.Reads.{after_writes}
use Rattle.rsp_microcode.specs.Loads.{WholeLoad, load, loaded}
use Rattle.rsp_microcode.specs.Multiplies.{Term, term}
use Rattle.rsp_microcode.specs.Pieces.{takes, sums, puts, rows, after_pieces}
use Rattle.rsp_microcode.specs.Loops.{Loop, loop_code, round_of, HandsOn}
use Rattle.rsp_microcode.specs.Buffers.{IsFilled}
use Rattle.rsp_microcode.proofs.Registers.{vector_reads, length-with_vector}
use Rattle.rsp_microcode.proofs.Listings.{listed, listing}
use Rattle.rsp_microcode.specs.Fixed.{fixed, fixed_added}
use Rattle.rsp_microcode.proofs.Bytes.{has_bytes, lanes_are}
use Rattle.rsp_microcode.proofs.Fixed.{itself, picked, fixed_high}
use Rattle.rsp_microcode.proofs.FixedSums.{fixed_adds}
use Rattle.rsp_microcode.proofs.Buffers.{filled_none, filled_one, filled_spares}
use Rattle.rsp_microcode.proofs.Joins.{ran_others}
use Rattle.rsp_routines.specs.Areas.{vectors_for}
use Rattle.rsp_routines.specs.Mix.{mixed_in, IsMix}
use Rattle.rsp_routines.specs.MixRamp.{volume, ramped, MixesRamp, MixesRamps}
use Rattle.rsp_routines.proofs.Bytes.{lane_half}
use Rattle.rsp_routines.proofs.Tailed.{tailed_words, tailed_and, more, buffer_of, spares_of}

abbrev loads : List WholeLoad
loads = load 1 0 1 ∷ load 2 0 2 ∷ []

abbrev terms : List Term
terms = term Vmulf 7 1 3 0 ∷ term Vmadh 7 2 8 8 ∷ []

abbrev loop : Loop
loop = record {
  words =
      0xc8212000 ∷ 0xc8422000 ∷ 0x2484fff0 ∷ 0x24210010 ∷ 0x4a0309c0 ∷ 0x4b0811cf ∷ 0x4a062114 ∷ 0x4a0518d0 ∷ 0x24420010 ∷ 0xe8672000 ∷ 0x1c80fff5 ∷
      0x24630010 ∷ [];
  pieces =
      takes loads
      ∷ rows (Immediate Addiu 4 4 0xfff0 ∷ Immediate Addiu 1 1 16 ∷ [])
      ∷ sums terms
      ∷ rows (
      VectorAdd Vaddc (record { vd = 4; vs = 4; vt = 6; element = 0 }) ∷ VectorAdd Vadd (record { vd = 3; vs = 3; vt = 5; element = 0 }) ∷ Immediate Addiu 2 2 16 ∷ []
      )
      ∷ puts 7 0 3
      ∷ [];
  branch = BranchSign Bgtz 4 0xfff5;
  slot = Immediate Addiu 3 3 16;
}

decoded : map inst_of loop.words ≡ map Some (loop_code loop)
unfolding inst_of row_of
decoded = refl

-- eight samples a and b by the volumes v of the lanes and the one in lane 0 of w: the addends so far, and the sum, which never wraps
abbrev so_far : List ℕ → List ℕ → List ℕ → List ℕ → ℕ → ℤ
so_far a b v w i = (pos 0 +ℤ rounded (get_or a i 0) (get_or (selected v 0) i 0)) +ℤ signed_times_65536 (get_or b i 0) (get_or (selected w 8) i 0)

in_range : (x y : ℤ) → negsuc (2 ^ 30 - 1) ≤ℤ x → x ≤ℤ pos (2 ^ 30) → negsuc (2 ^ 30 - 1) ≤ℤ y → y ≤ℤ pos (2 ^ 30)
    → s48 ((pos 0 +ℤ (pos 2 *ℤ x +ℤ pos 32768)) +ℤ y *ℤ pos 65536) ≡ (pos 2 *ℤ x +ℤ pos 32768) +ℤ pos 65536 *ℤ y
in_range x y a b c d = s48_is _ _ 0 0 (omega (arith, ints)) (omega (arith, ints)) (omega (arith, ints))

abbrev sample : ℕ → ℕ → ℕ → ℕ → ℕ
sample a b v w = sixteen_bits (mixed_in (s16 a) (s16 v) (s16 b) (s16 w))

abbrev samples : List ℕ → List ℕ → List ℕ → List ℕ → List ℕ
samples a b v w = each_lane (λ i. sample (get_or a i 0) (get_or b i 0) (get_or v i 0) (get_or w 0 0))

lane : (a b v w : List ℕ) → IsVector a → IsVector b → IsVector v → IsVector w → (i : ℕ) → i < 8
    → clamp_of Signed (s48 (so_far a b v w i)) ≡ sample (get_or a i 0) (get_or b i 0) (get_or v i 0) (get_or w 0 0)
unfolding clamp_of
lane a b v w is_a is_b is_v is_w i h =
    let p = (signed (get_or a i 0) (get_or v i 0) (is_a.1 i) (is_v.1 i)).1 in
    let q = (signed (get_or b i 0) (get_or w 0 0) (is_b.1 i) (is_w.1 0)).1 in
    rw (itself v i h, picked w 8 i h) (ap (λ z. sixteen_bits (clamp16 (floor_div z 65536)))
    (in_range (s16 (get_or a i 0) *ℤ s16 (get_or v i 0)) (s16 (get_or b i 0) *ℤ s16 (get_or w 0 0)) p.low p.high q.low q.high))

all_lanes : (a b v w : List ℕ) → IsVector a → IsVector b → IsVector v → IsVector w → each_lane (λ i. clamp_of Signed (s48 (so_far a b v w i))) ≡ samples a b v w
all_lanes a b v w is_a is_b is_v is_w = each_same _ _ (lane a b v w is_a is_b is_v is_w)

-- vector k of the mix, and what holds after k rounds
abbrev mixture : State → ℕ → List ℕ
mixture s k = each_lane (λ i. ramped s k i (get_or (lanes_at s.dmem (register s.registers 1 + 16 * k)) i 0) (get_or (lanes_at s.dmem (register s.registers 2 + 16 * k)) i 0))

record Holds (s : State) (k : ℕ) (t : State) : Type 0 where
  one : register t.registers 1 ≡ register s.registers 1 + 16 * k
  two : register t.registers 2 ≡ register s.registers 2 + 16 * k
  three : register t.registers 3 ≡ register s.registers 3 + 16 * k
  four : (register t.registers 4 + 16 * k) % 2 ^ 32 ≡ register s.registers 4
  volumes : (i : ℕ) → i < 8 → fixed (vector t.vectors 3) (vector t.vectors 4) i ≡ volume s k i
  filled : IsFilled (mixture s) s.dmem t.dmem (register s.registers 3) k

-- the scalar registers after a round, the one that the branch reads, and the address of the store
counted : (t : State) → length t.registers ≡ 32 →
    let r = t.registers in
    let q = (round_of loop t).registers in
    (register q 1 ≡ (register r 1 + 16) % 2 ^ 32) × (register q 2 ≡ (register r 2 + 16) % 2 ^ 32) × (register q 3 ≡ (register r 3 + 16) % 2 ^ 32)
    × (register q 4 ≡ (register r 4 + 4294967280) % 2 ^ 32)
    × (register (after_pieces loop.pieces t).registers 4 ≡ (register r 4 + 4294967280) % 2 ^ 32)
    × (register (after_pieces (take 4 loop.pieces) t).registers 3 ≡ register r 3)
unfolding executed instruction_effect computes jumps ruled
counted t n =
    let e = listed t.registers n in
    let q = λ (i : ℕ) (r : List ℕ). register (round_of loop (record t { registers = r })).registers i in (
      ap (q 1) e,
      ap (q 2) e,
      ap (q 3) e,
      ap (q 4) e,
      ap (λ (r : List ℕ). register (after_pieces loop.pieces (record t { registers = r })).registers 4) e,
      ap (λ (r : List ℕ). register (after_pieces (take 4 loop.pieces) (record t { registers = r })).registers 3) e,
    )

-- what a round stores
stored : (t : State) → IsState t → (round_of loop t).dmem
    ≡ with_lanes t.dmem (register t.registers 3 + 16 * 0)
    (samples (lanes_at t.dmem (register t.registers 1 + 16 * 0)) (lanes_at t.dmem (register t.registers 2 + 16 * 0)) (vector t.vectors 3) (vector t.vectors 8))
unfolding executed instruction_effect computes jumps ruled
stored t is =
    let r = t.registers in
    let writes = loaded loads t.dmem (listing r) in
    let file = after_writes with_vector writes t.vectors in
    let read = λ (n : ℕ). vector_reads writes t.vectors n is.vectors.count refl in
    let v = λ (a : ℕ). lanes_are t.dmem a (has_bytes t.dmem is.dmem) in
    ap (λ (r : List ℕ). (round_of loop (record t { registers = r })).dmem) (listed r is.registers.count)
    ∙ ap (with_lanes t.dmem (register r 3 + 16 * 0)) (
    vector_reads ((7, _) ∷ (7, _) ∷ (4, _) ∷ (3, _) ∷ []) file 7 (length-with_vector _ 2 _ ∙ length-with_vector t.vectors 1 _ ∙ is.vectors.count) refl
    ∙ rw (read 1, read 2, read 3, read 8) (all_lanes _ _ _ _ (v _) (v _) (is.vectors.registers 3 (omega arith)) (is.vectors.registers 8 (omega arith)))
    )

-- the volumes after a round
same_low : (v w x y : List ℕ) (f : Flags) → x ≡ v → y ≡ w → results_of vaddc x (selected y 0) f ≡ results_of vaddc v (selected w 0) f
same_low v w x y f e g = rw (e, g) refl

same_high : (a b c d p q x y : List ℕ) (f : Flags) → p ≡ a → q ≡ b → x ≡ c → y ≡ d
    → results_of vadd p (selected x 0) (flags_after vaddc q (selected y 0) f) ≡ results_of vadd a (selected c 0) (flags_after vaddc b (selected d 0) f)
same_high a b c d p q x y f e g h k = rw (e, g, h, k) refl

louder : (t : State) → IsState t → (i : ℕ) → i < 8
    → fixed (vector (round_of loop t).vectors 3) (vector (round_of loop t).vectors 4) i ≡ fixed_added (fixed (vector t.vectors 3) (vector t.vectors 4) i) (fixed (vector t.vectors 5) (vector t.vectors 6) i)
unfolding executed instruction_effect computes jumps ruled
louder t is i h =
    let writes = loaded loads t.dmem t.registers in
    let file = after_writes with_vector writes t.vectors in
    let read = λ (n : ℕ). vector_reads writes t.vectors n is.vectors.count refl in
    let count = length-with_vector _ 2 _ ∙ length-with_vector t.vectors 1 _ ∙ is.vectors.count in
    let v = is.vectors.registers in
    fixed_adds (vector t.vectors 3) (vector t.vectors 4) (vector t.vectors 5) (vector t.vectors 6) _ _ 0 t.flags (v 3 (omega arith)) (v 4 (omega arith)) (v 5 (omega arith)) (v 6 (omega arith))
    (vector_reads ((7, _) ∷ (7, _) ∷ (4, _) ∷ (3, _) ∷ []) file 3 count refl ∙ same_high _ _ _ _ _ _ _ _ t.flags
    (vector_reads ((7, _) ∷ (7, _) ∷ (4, _) ∷ []) file 3 count refl ∙ read 3)
    (vector_reads ((7, _) ∷ (7, _) ∷ []) file 4 count refl ∙ read 4)
    (vector_reads ((7, _) ∷ (7, _) ∷ (4, _) ∷ []) file 5 count refl ∙ read 5)
    (vector_reads ((7, _) ∷ (7, _) ∷ []) file 6 count refl ∙ read 6))
    (vector_reads ((7, _) ∷ (7, _) ∷ (4, _) ∷ (3, _) ∷ []) file 4 count refl ∙ same_low _ _ _ _ t.flags
    (vector_reads ((7, _) ∷ (7, _) ∷ []) file 4 count refl ∙ read 4)
    (vector_reads ((7, _) ∷ (7, _) ∷ []) file 6 count refl ∙ read 6))
    i h

next_volume : (s : State) (k i : ℕ) → fixed_added (volume s k i) (fixed (vector s.vectors 5) (vector s.vectors 6) i) ≡ volume s (k + 1) i
next_volume s k i = ap (λ n. volume s n i) (let e : suc k ≡ k + 1 = omega arith in e)

one_round : (s u : State) → IsMix (register s.registers 1) (register s.registers 2) (register s.registers 3) (register s.registers 4)
    → vector u.vectors 5 ≡ vector s.vectors 5 → vector u.vectors 6 ≡ vector s.vectors 6 → vector u.vectors 8 ≡ vector s.vectors 8
    → HandsOn loop u (vectors_for (register s.registers 4)) (Holds s)
one_round s u entered same5 same6 same8 k t h is spares holds =
    let a = register s.registers 1 in
    let b = register s.registers 2 in
    let c = register s.registers 3 in
    let n = register s.registers 4 in
    let e1 = holds.one in
    let e2 = holds.two in
    let e3 = holds.three in
    let e4 = holds.four in
    let first = buffer_of a n entered.first_area in
    let second = buffer_of b n entered.second_area in
    let to = buffer_of c n entered.target in
    let fa = first.aligned in
    let sa = second.aligned in
    let ta = to.aligned in
    let fi = first.inside in
    let si = second.inside in
    let ti = to.inside in
    let most = entered.target.ends in
    let q = counted t is.registers.count in
    let one : lanes_at t.dmem (register t.registers 1 + 16 * 0) ≡ lanes_at s.dmem (a + 16 * k) =
    ap (lanes_at t.dmem) (omega arith) ∙ filled_spares _ _ _ c a (vectors_for n) k to first (spares_of c a n entered.target entered.first_area entered.spares_first) h holds.filled in
    let two : lanes_at t.dmem (register t.registers 2 + 16 * 0) ≡ lanes_at s.dmem (b + 16 * k) =
    ap (lanes_at t.dmem) (omega arith) ∙ filled_spares _ _ _ c b (vectors_for n) k to second (spares_of c b n entered.target entered.second_area entered.spares_second) h holds.filled in
    let at : register t.registers 3 + 16 * 0 ≡ c + 16 * k = omega arith in
    let v5 : vector t.vectors 5 ≡ vector s.vectors 5 = spares.vectors 5 refl ∙ same5 in
    let v6 : vector t.vectors 6 ≡ vector s.vectors 6 = spares.vectors 6 refl ∙ same6 in
    let v8 : vector t.vectors 8 ≡ vector s.vectors 8 = spares.vectors 8 refl ∙ same8 in
    let v = is.vectors.registers in
    let loud : (i : ℕ) → i < 8 → s16 (get_or (vector t.vectors 3) i 0) ≡ floor_div (volume s k i) 65536 =
    λ i l. sym (fixed_high _ _ ((v 3 (omega arith)).1 i) ((v 4 (omega arith)).1 i)) ∙ ap (λ z. floor_div z 65536) (holds.volumes i l) in
    let mixed : samples (lanes_at s.dmem (a + 16 * k)) (lanes_at s.dmem (b + 16 * k)) (vector t.vectors 3) (vector s.vectors 8) ≡ mixture s k = each_same _ _ (λ i l. rw (loud i l) refl) in
    let memory : (round_of loop t).dmem ≡ with_lanes t.dmem (c + 16 * k) (mixture s k) = stored t is ∙ rw (one, two, at, v8) (ap (with_lanes t.dmem (c + 16 * k)) mixed) in (
      ((omega arith, (omega arith, tt)), (ap (λ x. x % 16) q.5 ∙ omega arith, tt)),
      ap (λ x. int_lt (pos 0) (s32 x)) q.4 ∙ more (register t.registers 4) n k h (omega arith) (is.registers.words 4) e4,
      record {
        one = q.0 ∙ omega arith;
        two = q.1 ∙ omega arith;
        three = q.2 ∙ omega arith;
        four = let e = q.3 in omega arith;
        volumes = λ i l. louder t is i l ∙ rw (holds.volumes i l, v5, v6) (next_volume s k i);
        filled = subst (λ m. IsFilled (mixture s) s.dmem m c (k + 1)) (sym memory) (filled_one (mixture s) s.dmem t.dmem c (vectors_for n) k to h is.dmem.count (length_each _) holds.filled);
      },
    )

-- one sample of the mix
one_sample : (s : State) (i : ℕ) → get_or (mixture s (i / 8)) (i % 8) 0 ≡ ramped s (i / 8) (i % 8) (half_at s.dmem (register s.registers 1 + 2 * i)) (half_at s.dmem (register s.registers 2 + 2 * i))
one_sample s i =
    let at = λ (a : ℕ). lane_half s.dmem (a + 16 * (i / 8)) (i % 8) (omega arith) ∙ ap (half_at s.dmem) (same a i) in
    lane_of 0 _ (mixture s (i / 8)) refl (i % 8) (omega arith) ∙ rw (at (register s.registers 1), at (register s.registers 2)) refl
  where
    same : (a i : ℕ) → a + 16 * (i / 8) + 2 * (i % 8) ≡ a + 2 * i
    same a i = omega arith

pub mixes_ramps : SumsOfProducts → MixesRamps (tailed_words loop)
mixes_ramps law s is at entered =
    let r = s.registers in
    let n = register r 4 in
    let t = steps_of (2 + (vectors_for n * 12 + 1)) s in
    let ended = tailed_and law loop decoded refl refl refl (mixture s) s is at entered.target (λ _. Holds s) (λ f. (i : ℕ) → i < 8 → fixed (vector f 3) (vector f 4) i ≡ volume s (vectors_for n) i) (λ u ok b.
    let same = b.ran.spares in
    let e1 : register u.registers 1 ≡ register r 1 = same.scalars 1 refl in
    let e2 : register u.registers 2 ≡ register r 2 = same.scalars 2 refl in
    let e3 : register u.registers 3 ≡ register r 3 = same.scalars 3 refl in
    let e4 : register u.registers 4 ≡ register r 4 = same.scalars 4 refl in
    let small = is.registers.words 4 in (
      record {
        start = record {
          one = omega arith;
          two = omega arith;
          three = omega arith;
          four = omega arith;
          volumes = λ i h. rw (same.vectors 3 refl, same.vectors 4 refl) refl;
          filled = subst (λ m. IsFilled (mixture s) s.dmem m (register r 3) 0) (sym b.memory) (filled_none (mixture s) s.dmem (register r 3));
        };
        each = one_round s u entered (same.vectors 5 refl) (same.vectors 6 refl) (same.vectors 8 refl);
        filled = λ w holds. holds.filled;
      },
      λ w holds. holds.volumes,
    )) in
    let end = ended.0 in
    let done : MixesRamp (tailed_words loop) s t (register r 1) (register r 2) (register r 3) n = record {
      samples = λ i h. end.halves i h ∙ one_sample s i;
      outside = end.outside;
      volumes = ended.1;
      others = ran_others (tailed_words loop) _ s t is at.next end.ran (1 ∷ 2 ∷ 3 ∷ 4 ∷ 5 ∷ []) (1 ∷ 2 ∷ 3 ∷ 4 ∷ 7 ∷ 30 ∷ []) refl;
    } in
    subst (λ k. MixesRamp (tailed_words loop) s (steps_of k s) (register r 1) (register r 2) (register r 3) n) (omega arith) done
