-- Two sounds mixed.
use Rattle.std.proofs.Common.{◌≡◌, ℕ, ◌-◌, ◌^◌, ◌<◌, ℤ, pos, negsuc, ◌+ℤ◌, ◌*ℤ◌, List, [], ◌∷◌, map, get_or, Some, refl, ap, ◌∙◌, arith}
use Rattle.std.specs.Prelude.{◌≤ℤ◌}
use Rattle.std.proofs.lemmas.Int.{ints}
use Rattle.rsp_numbers.specs.Numbers.{s16, s48, sixteen_bits, clamp16, floor_div}
use Rattle.rsp_numbers.proofs.Wrap.{s48_is}
use Rattle.rsp_decode.specs.declared.vector.VectorMultiplyOp.TheVariants.{Vmulf, Vmacf}
use Rattle.rsp_decode.specs.Table.Words.{inst_of, row_of}
use Rattle.rsp_lanes.specs.Lanes.{each_lane, selected, IsVector}
use Rattle.rsp_lanes.proofs.Kit.{lane_of, each_same}
use Rattle.rsp_loadstore.specs.File.{vector, with_vector}
use Rattle.rsp_acc.specs.Parts.{clamp_of}
use Rattle.rsp_acc.specs.declared.parts.Clamp.TheVariants.{Signed}
use Rattle.rsp_multiply.specs.Laws.{SumsOfProducts}
use Rattle.rsp_multiply.specs.MultiplyRules.{rounded, fraction}
use Rattle.rsp_multiply.proofs.Signs.{signed}
use Rattle.rsp_machine.specs.State.{State}
use Rattle.rsp_machine.specs.Laws.{steps_of}
use Rattle.rsp_microcode.specs.Runs.{address_after_words}
use Rattle.rsp_microcode.specs.Multiplies.{Term, term, sum_writes}
use Rattle.rsp_microcode.specs.Pieces.{sums, code_of}
use Rattle.rsp_routines.specs.MixLanes.{mixed, mix, MixesLanes}
use Rattle.rsp_microcode.proofs.Registers.{vector_reads}
use Rattle.rsp_microcode.proofs.Pieces.{pieces_run}

abbrev words : List ℕ
words = 0x4b030900 ∷ 0x4b231108 ∷ []

abbrev terms : List Term
terms = term Vmulf 4 1 3 8 ∷ term Vmacf 4 2 3 9 ∷ []

decoded : map inst_of words ≡ map Some (code_of (sums terms ∷ []))
unfolding inst_of row_of
decoded = refl

-- the addends so far
abbrev so_far : List ℕ → List ℕ → List ℕ → ℕ → ℤ
so_far a b v i = (pos 0 +ℤ rounded (get_or a i 0) (get_or (selected v 8) i 0)) +ℤ fraction (get_or b i 0) (get_or (selected v 9) i 0)

-- one lane for all
picked : (v : List ℕ) (i : ℕ) → i < 8 → (get_or (selected v 8) i 0 ≡ get_or v 0 0) × (get_or (selected v 9) i 0 ≡ get_or v 1 0)
picked v i h = (lane_of 0 (λ _. get_or v 0 0) (selected v 8) refl i h, lane_of 0 (λ _. get_or v 1 0) (selected v 9) refl i h)

-- the sum never wraps
in_range : (x y : ℤ) → negsuc (2 ^ 30 - 1) ≤ℤ x → x ≤ℤ pos (2 ^ 30) → negsuc (2 ^ 30 - 1) ≤ℤ y → y ≤ℤ pos (2 ^ 30)
    → s48 ((pos 0 +ℤ (pos 2 *ℤ x +ℤ pos 32768)) +ℤ pos 2 *ℤ y) ≡ (pos 2 *ℤ x +ℤ pos 2 *ℤ y) +ℤ pos 32768
in_range x y a b c d = s48_is _ _ 0 0 (omega (arith, ints)) (omega (arith, ints)) (omega (arith, ints))

lane : (a b v : List ℕ) → IsVector a → IsVector b → IsVector v → (i : ℕ) → i < 8
    → clamp_of Signed (s48 (so_far a b v i)) ≡ sixteen_bits (mixed (s16 (get_or a i 0)) (s16 (get_or b i 0)) (s16 (get_or v 0 0)) (s16 (get_or v 1 0)))
unfolding clamp_of
lane a b v is_a is_b is_v i h =
    let p = (signed (get_or a i 0) (get_or v 0 0) (is_a.1 i) (is_v.1 0)).1 in
    let q = (signed (get_or b i 0) (get_or v 1 0) (is_b.1 i) (is_v.1 1)).1 in
    rw ((picked v i h).0, (picked v i h).1) (ap (λ z. sixteen_bits (clamp16 (floor_div z 65536))) (in_range (s16 (get_or a i 0) *ℤ s16 (get_or v 0 0)) (s16 (get_or b i 0) *ℤ s16 (get_or v 1 0)) p.low p.high q.low q.high))

pub mixed_lanes : (a b v : List ℕ) → IsVector a → IsVector b → IsVector v → each_lane (λ i. clamp_of Signed (s48 (so_far a b v i))) ≡ mix a b v
mixed_lanes a b v is_a is_b is_v = each_same _ _ (lane a b v is_a is_b is_v)

pub mixes_lanes : SumsOfProducts → MixesLanes words
mixes_lanes law s is at =
    let end = pieces_run law words (sums terms ∷ []) decoded refl s is at tt in
    let v = is.vectors.registers in
    let all = ap (λ (t : State). vector t.vectors 4) end.ran ∙ vector_reads (sum_writes terms s.vectors) s.vectors 4 is.vectors.count refl
    ∙ mixed_lanes _ _ _ (v 1 (omega arith)) (v 2 (omega arith)) (v 3 (omega arith)) in
    end.others [] (4 ∷ []) refl ∙ ap (λ w. let u : State = record s {
      pc = address_after_words words s.pc;
      npc = address_after_words words s.npc;
      vectors = with_vector s.vectors 4 w;
      accumulators = (steps_of 2 s).accumulators;
    } in u) all
